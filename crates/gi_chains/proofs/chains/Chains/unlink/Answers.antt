use Rattle.std.proofs.Common.{◌≡◌, ◌<◌, sym, ap, ◌∙◌, subst, length, ℕ, List, set, arith}
use Rattle.std.specs.List.{remove}
use Rattle.std.proofs.lemmas.List.{with_items_is}
use Rattle.gi_chains.specs.Links.{walked}
use Rattle.gi_chains.specs.Lists.{Lists, items_at, StandsAt, IsLinked, IsApart}
use Rattle.gi_chains.specs.Seats.{nodes_of, words_of}
use Rattle.gi_chains.proofs.Keeping.{kept_apart, settled, viewed, few}
use Rattle.gi_chains.proofs.chains.Chains.unlink.Goals as goal

pub overflow_cast-at : goal.overflow_cast-at
overflow_cast-at c =
    let lt : c.args.node < c.args.self.now.nodes = (let apart = subst IsApart c.self.view_is (kept_apart _ _ c.self.invariant) in apart.within _ _ _ c.requires.2) in
    let e : length c.self.inside.seats.items ≡ c.args.self.now.nodes = ap (λ (v : Lists). v.nodes) c.self.view_is in
    let f = c.self.invariant.few_nodes in
    omega arith

pub cut-requires-clause-node : goal.cut-requires-clause-node
cut-requires-clause-node c =
    let lt : c.args.node < c.args.self.now.nodes = (let apart = subst IsApart c.self.view_is (kept_apart _ _ c.self.invariant) in apart.within _ _ _ c.requires.2) in
    subst (λ n. c.args.node < n) (sym (ap length c.deref_mut-2.ensures.value ∙ ap (λ (v : Lists). v.nodes) c.self.view_is)) lt

pub invariant_of-self : goal.invariant_of-self
invariant_of-self c =
    let lists : walked c.deref_mut.result.now (nodes_of c.deref_mut-2.result.now) ≡ c.args.self.now.lists = ap (λ e. walked e (nodes_of c.deref_mut-2.result.now)) c.deref_mut.ensures.value ∙ ap (λ z. walked c.self.inside.ends.items (nodes_of z)) c.deref_mut-2.ensures.value ∙ ap (λ (v : Lists). v.lists) c.self.view_is in
    let s : IsLinked (walked c.deref_mut.result.now (nodes_of c.deref_mut-2.result.now)) c.args.node = subst (λ (ls : List (List ℕ)). IsLinked ls c.args.node) (sym lists) c.requires in
    settled _ _ _ _ _ (with_items_is c.self.inside.ends _ (c.cut.auto.ends ∙ c.deref_mut.ensures.len)) (with_items_is c.self.inside.seats _ (c.cut.auto.seats ∙ c.deref_mut-2.ensures.len)) (c.cut.ensures.chained s.0 s.1 s.2)
    (few _ _ (c.cut.auto.ends ∙ ap length c.deref_mut.ensures.value) c.self.invariant.few_lists) (few _ _ (c.cut.auto.seats ∙ ap length c.deref_mut-2.ensures.value) c.self.invariant.few_nodes)

pub returns-clause-after : goal.returns-clause-after
returns-clause-after c l i s =
    let lists : walked c.deref_mut.result.now (nodes_of c.deref_mut-2.result.now) ≡ c.args.self.now.lists = ap (λ e. walked e (nodes_of c.deref_mut-2.result.now)) c.deref_mut.ensures.value ∙ ap (λ z. walked c.self.inside.ends.items (nodes_of z)) c.deref_mut-2.ensures.value ∙ ap (λ (v : Lists). v.lists) c.self.view_is in
    let t : StandsAt (walked c.deref_mut.result.now (nodes_of c.deref_mut-2.result.now)) l i c.args.node = subst (λ (ls : List (List ℕ)). StandsAt ls l i c.args.node) (sym lists) s in
    viewed _ _ _ _ _ (with_items_is c.self.inside.ends _ (c.cut.auto.ends ∙ c.deref_mut.ensures.len)) (with_items_is c.self.inside.seats _ (c.cut.auto.seats ∙ c.deref_mut-2.ensures.len)) (c.cut.ensures.chained l i t)
    _ (c.cut.auto.seats ∙ ap length c.deref_mut-2.ensures.value ∙ ap (λ (v : Lists). v.nodes) c.self.view_is)
    _ (ap (λ (ls : List (List ℕ)). set ls l (remove (items_at ls l) i)) lists)
    _ (c.cut.ensures.words ∙ ap words_of c.deref_mut-2.ensures.value ∙ ap (λ (v : Lists). v.words) c.self.view_is)

pub returns-clause-apart : goal.returns-clause-apart
returns-clause-apart c = kept_apart _ _ (invariant_of-self c)
