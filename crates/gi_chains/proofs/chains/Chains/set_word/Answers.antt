use Rattle.std.proofs.Common.{◌≡◌, ap, sym, ◌∙◌, subst, length, List, set, refl}
use Rattle.std.proofs.lemmas.List.{with_items_is}
use Rattle.gi_chains.specs.Links.{walked, IsChained}
use Rattle.gi_chains.specs.Lists.{Lists}
use Rattle.gi_chains.specs.Seats.{nodes_of, words_of}
use Rattle.gi_chains.specs.declared.node.Node.{Node}
use Rattle.gi_chains.proofs.Keeping.{kept_apart, settled, viewed, few}
use Rattle.gi_chains.proofs.chains.Chains.set_word.Goals as goal

pub invariant_of-self : goal.invariant_of-self
invariant_of-self c =
    let same : nodes_of c.put_word.new.seats ≡ nodes_of c.self.inside.seats.items = c.put_word.ensures.nodes ∙ ap nodes_of c.deref_mut.ensures.value in
    settled _ _ _ _ (walked c.self.inside.ends.items (nodes_of c.self.inside.seats.items)) refl (with_items_is c.self.inside.seats _ (c.put_word.auto.seats ∙ c.deref_mut.ensures.len))
    (subst (λ (ns : List Node). IsChained c.self.inside.ends.items ns (walked c.self.inside.ends.items (nodes_of c.self.inside.seats.items))) (sym same) c.self.invariant.chained)
    c.self.invariant.few_lists (few _ _ (c.put_word.auto.seats ∙ ap length c.deref_mut.ensures.value) c.self.invariant.few_nodes)

pub returns-clause-after : goal.returns-clause-after
returns-clause-after c =
    let same : nodes_of c.put_word.new.seats ≡ nodes_of c.self.inside.seats.items = c.put_word.ensures.nodes ∙ ap nodes_of c.deref_mut.ensures.value in
    viewed _ _ _ _ (walked c.self.inside.ends.items (nodes_of c.self.inside.seats.items)) refl (with_items_is c.self.inside.seats _ (c.put_word.auto.seats ∙ c.deref_mut.ensures.len))
    (subst (λ (ns : List Node). IsChained c.self.inside.ends.items ns (walked c.self.inside.ends.items (nodes_of c.self.inside.seats.items))) (sym same) c.self.invariant.chained)
    _ (c.put_word.auto.seats ∙ ap length c.deref_mut.ensures.value ∙ ap (λ (v : Lists). v.nodes) c.self.view_is)
    _ (ap (λ (v : Lists). v.lists) c.self.view_is)
    _ (c.put_word.ensures.words ∙ ap (λ z. set z c.args.node c.args.word) (ap words_of c.deref_mut.ensures.value ∙ ap (λ (v : Lists). v.words) c.self.view_is))

pub returns-clause-apart : goal.returns-clause-apart
returns-clause-apart c = kept_apart _ _ (invariant_of-self c)
