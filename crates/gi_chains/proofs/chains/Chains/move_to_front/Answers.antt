use Rattle.std.proofs.Common.{◌≡◌, ◌<◌, sym, ap, ◌∙◌, subst, length, length-set, ℕ, List, ◌∷◌, set}
use Rattle.std.specs.List.{remove}
use Rattle.gi_chains.specs.Lists.{Lists, items_at, IsFree, with_list}
use Rattle.gi_chains.proofs.Keeping.{none_linked}
use Rattle.gi_chains.proofs.Moving.{IsFree-unlinked, moved}
use Rattle.gi_chains.proofs.chains.Chains.move_to_front.Goals as goal

pub list_of-requires : goal.list_of-requires
list_of-requires c = c.lists.ensures.apart.within _ _ _ c.requires.2

pub unreachable-requires : goal.unreachable-requires
unreachable-requires c = none_linked _ _ _ c.list_of.ensures.value c.requires c.in_default.not-Some

pub push_front-requires-clause-list : goal.push_front-requires-clause-list
push_front-requires-clause-list c =
    let same : c.in-Some.list ≡ c.requires.0 = c.list_of.ensures.apart.same_list _ _ _ _ _ c.in-Some.ensures.value.1 c.requires.2 in
    let old : c.in-Some.list < length c.args.self.now.lists = subst (λ n. n < length c.args.self.now.lists) (sym same) c.requires.2.list in
    subst (λ n. c.in-Some.list < n) (sym (ap (λ (v : Lists). length v.lists) (c.unlink.ensures.after _ _ c.requires.2) ∙ length-set c.args.self.now.lists c.requires.0 _)) old

pub push_front-requires-clause-node : goal.push_front-requires-clause-node
push_front-requires-clause-node c = subst (λ (v : Lists). c.args.node < v.nodes) (sym (c.unlink.ensures.after _ _ c.requires.2)) (c.list_of.ensures.apart.within _ _ _ c.requires.2)

pub push_front-requires-clause-free : goal.push_front-requires-clause-free
push_front-requires-clause-free c = subst (λ (v : Lists). IsFree v.lists c.args.node) (sym (c.unlink.ensures.after _ _ c.requires.2)) (IsFree-unlinked _ _ _ c.list_of.ensures.apart _ _ _ c.requires.2)

pub returns-clause-after : goal.returns-clause-after
returns-clause-after c l i s =
    let same : c.in-Some.list ≡ l = c.list_of.ensures.apart.same_list _ _ _ _ _ c.in-Some.ensures.value.1 s in
    let made : List (List ℕ) → Lists = λ x. record c.args.self.now { lists = x } in
    c.push_front.ensures.after
    ∙ ap (λ (v : Lists). with_list v c.in-Some.list (c.args.node ∷ items_at v.lists c.in-Some.list)) (c.unlink.ensures.after l i s)
    ∙ ap (λ n. made (set (set c.args.self.now.lists l (remove (items_at c.args.self.now.lists l) i)) n (c.args.node ∷ items_at (set c.args.self.now.lists l (remove (items_at c.args.self.now.lists l) i)) n))) same
    ∙ ap made (moved c.args.self.now.lists c.args.self.now.nodes c.args.self.now.words c.list_of.ensures.apart l i c.args.node s (λ z. c.args.node ∷ z))
