use Rattle.std.proofs.Common.{◌<◌, ◌∙◌, sym, subst}
use Rattle.std.specs.Option.{IfSome}
use Rattle.gi_chains.proofs.Keeping.{length-nodes}
use Rattle.gi_chains.proofs.Pushing.{front_chained, first_exists}
use Rattle.gi_chains.proofs.node.link_front.Goals as goal

pub set_prev-requires : goal.set_prev-requires
set_prev-requires c = subst (λ n. IfSome c.index-ends-list.result.first (λ q. q < n)) (length-nodes c.args.seats.now ∙ sym c.set_node.auto.seats) (first_exists _ _ _ c.requires.chained _ c.requires.list _ (subst (λ n. c.args.node < n) (sym (length-nodes c.args.seats.now)) c.requires.node) c.requires.free _ c.index-ends-list.is)

pub returns-clause-chained : goal.returns-clause-chained
returns-clause-chained c = front_chained _ _ _ c.requires.chained _ c.requires.list _ (subst (λ n. c.args.node < n) (sym (length-nodes c.args.seats.now)) c.requires.node) c.requires.free _ c.index-ends-list.is _ _ _ _ _ c.to.ensures c.none.ensures c.to-2.ensures c.to-3.ensures c.or.ensures _ _ c.set_node.ensures.nodes c.set_prev.ensures.nodes
