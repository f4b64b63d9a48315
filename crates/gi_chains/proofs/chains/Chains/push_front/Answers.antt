use Rattle.std.proofs.Common.{ap, ◌∙◌, length, ℕ, List, ◌∷◌, set}
use Rattle.std.proofs.lemmas.List.{with_items_is}
use Rattle.gi_chains.specs.Links.{walked}
use Rattle.gi_chains.specs.Lists.{Lists, items_at}
use Rattle.gi_chains.specs.Seats.{nodes_of, words_of}
use Rattle.gi_chains.proofs.Keeping.{kept_apart, settled, viewed, few}
use Rattle.gi_chains.proofs.chains.Chains.push_front.Goals as goal

pub invariant_of-self : goal.invariant_of-self
invariant_of-self c =
    settled _ _ _ _ _ (with_items_is c.self.inside.ends _ (c.link_front.auto.ends ∙ c.deref_mut.ensures.len)) (with_items_is c.self.inside.seats _ (c.link_front.auto.seats ∙ c.deref_mut-2.ensures.len)) c.link_front.ensures.chained
    (few _ _ (c.link_front.auto.ends ∙ ap length c.deref_mut.ensures.value) c.self.invariant.few_lists) (few _ _ (c.link_front.auto.seats ∙ ap length c.deref_mut-2.ensures.value) c.self.invariant.few_nodes)

pub returns-clause-after : goal.returns-clause-after
returns-clause-after c =
    viewed _ _ _ _ _ (with_items_is c.self.inside.ends _ (c.link_front.auto.ends ∙ c.deref_mut.ensures.len)) (with_items_is c.self.inside.seats _ (c.link_front.auto.seats ∙ c.deref_mut-2.ensures.len)) c.link_front.ensures.chained
    _ (c.link_front.auto.seats ∙ ap length c.deref_mut-2.ensures.value ∙ ap (λ (v : Lists). v.nodes) c.self.view_is)
    _ (ap (λ (ls : List (List ℕ)). set ls c.args.list (c.args.node ∷ items_at ls c.args.list)) (ap (λ e. walked e (nodes_of c.deref_mut-2.result.now)) c.deref_mut.ensures.value ∙ ap (λ z. walked c.self.inside.ends.items (nodes_of z)) c.deref_mut-2.ensures.value ∙ ap (λ (v : Lists). v.lists) c.self.view_is))
    _ (c.link_front.ensures.words ∙ ap words_of c.deref_mut-2.ensures.value ∙ ap (λ (v : Lists). v.words) c.self.view_is)

pub returns-clause-apart : goal.returns-clause-apart
returns-clause-apart c = kept_apart _ _ (invariant_of-self c)
