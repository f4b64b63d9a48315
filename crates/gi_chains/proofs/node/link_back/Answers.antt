use Rattle.std.proofs.Common.{◌<◌, ◌∙◌, sym, subst}
use Rattle.std.specs.Option.{IfSome}
use Rattle.gi_chains.proofs.Keeping.{length-nodes}
use Rattle.gi_chains.proofs.Pushing.{back_chained, last_exists}
use Rattle.gi_chains.proofs.node.link_back.Goals as goal

pub set_next-requires : goal.set_next-requires
set_next-requires c = subst (λ n. IfSome c.index-ends-list.result.last (λ q. q < n)) (length-nodes c.args.seats.now ∙ sym c.set_node.auto.seats) (last_exists _ _ _ c.requires.chained _ c.requires.list _ (subst (λ n. c.args.node < n) (sym (length-nodes c.args.seats.now)) c.requires.node) c.requires.free _ c.index-ends-list.is)

pub returns-clause-chained : goal.returns-clause-chained
returns-clause-chained c = back_chained _ _ _ c.requires.chained _ c.requires.list _ (subst (λ n. c.args.node < n) (sym (length-nodes c.args.seats.now)) c.requires.node) c.requires.free _ c.index-ends-list.is _ _ _ _ _ c.to.ensures c.none.ensures c.to-2.ensures c.to-3.ensures c.or.ensures _ _ c.set_node.ensures.nodes c.set_next.ensures.nodes
