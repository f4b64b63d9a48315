use Rattle.std.proofs.Common.{◌≡◌, sym, ap, ◌∙◌, subst, suc, add-one}
use Rattle.std.specs.List.{slice_get}
use Rattle.gi_chains.specs.Lists.{Lists, items_at, StandsAt, IsFree}
use Rattle.gi_chains.specs.Links.{node_at}
use Rattle.gi_chains.specs.Seats.{nodes_of}
use Rattle.gi_chains.specs.declared.node.Node.{Node}
use Rattle.gi_chains.proofs.Linking.{none_free}
use Rattle.gi_chains.proofs.chains.Chains.next.Goals as goal

pub returns-clause-linked : goal.returns-clause-linked
returns-clause-linked c l i s =
    let at : c.node_of.result ≡ node_at (nodes_of c.self.inside.seats.items) c.args.node = c.node_of.ensures ∙ ap (λ z. node_at (nodes_of z) c.args.node) c.as_slice.ensures.value in
    c.number.ensures
    ∙ ap (λ (n : Node). n.next) (at ∙ c.self.invariant.chained.linked l i c.args.node (subst (λ (v : Lists). StandsAt v.lists l i c.args.node) (sym c.self.view_is) s))
    ∙ ap (λ (v : Lists). slice_get (items_at v.lists l) (suc i)) c.self.view_is ∙ ap (slice_get (items_at c.args.self.now.lists l)) (sym (add-one i))

pub returns-clause-free : goal.returns-clause-free
returns-clause-free c f =
    let at : c.node_of.result ≡ node_at (nodes_of c.self.inside.seats.items) c.args.node = c.node_of.ensures ∙ ap (λ z. node_at (nodes_of z) c.args.node) c.as_slice.ensures.value in
    let none = none_free _ _ _ c.self.invariant.chained c.args.node (subst (λ (v : Lists). IsFree v.lists c.args.node) (sym c.self.view_is) f) in
    c.number.ensures
    ∙ ap (λ (n : Node). n.next) (at ∙ c.self.invariant.chained.free c.args.node none)
