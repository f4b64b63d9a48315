use Rattle.std.proofs.Common.{◌<◌, ◌∙◌, sym, ap, subst, length}
use Rattle.std.specs.Option.{IfSome}
use Rattle.gi_chains.specs.Links.{blank}
use Rattle.gi_chains.specs.Seats.{nodes_of}
use Rattle.gi_chains.specs.declared.node.Node.{Node}
use Rattle.gi_chains.proofs.Keeping.{length-nodes}
use Rattle.gi_chains.proofs.Unlinking.{cut_chained, list_read, list_exists, prev_exists, next_exists, read_at}
use Rattle.gi_chains.proofs.node.cut.Goals as goal

pub unreachable-requires : goal.unreachable-requires
unreachable-requires c = c.in_default.not-Some _ (c.get.ensures ∙ ap (λ (n : Node). n.list) c.node_of-at.ensures ∙ list_read _ _ _ c.requires.chained _ c.requires.linked blank)

pub set_next-requires : goal.set_next-requires
set_next-requires c =
    let lt : c.args.node < length (nodes_of c.args.seats.now) = subst (λ n. c.args.node < n) (sym (length-nodes c.args.seats.now)) c.requires.node in
    subst (λ n. IfSome c.node_of-at.result.prev (λ q. q < n)) (length-nodes c.args.seats.now) (prev_exists _ _ _ c.requires.chained _ c.requires.linked _ (read_at _ _ _ lt c.node_of-at.ensures))

pub set_prev-requires : goal.set_prev-requires
set_prev-requires c =
    let lt : c.args.node < length (nodes_of c.args.seats.now) = subst (λ n. c.args.node < n) (sym (length-nodes c.args.seats.now)) c.requires.node in
    subst (λ n. IfSome c.node_of-at.result.next (λ q. q < n)) (length-nodes c.args.seats.now ∙ sym c.set_next.auto.seats) (next_exists _ _ _ c.requires.chained _ c.requires.linked _ (read_at _ _ _ lt c.node_of-at.ensures))

pub bounds-ends-list : goal.bounds-ends-list
bounds-ends-list c = list_exists _ _ _ c.requires.chained _ c.requires.linked blank _ (sym (ap (λ (n : Node). n.list) c.node_of-at.ensures) ∙ sym c.in-Some.ensures)

pub bounds-ends-list-2 : goal.bounds-ends-list-2
bounds-ends-list-2 c = list_exists _ _ _ c.requires.chained _ c.requires.linked blank _ (sym (ap (λ (n : Node). n.list) c.node_of-at.ensures) ∙ sym c.in-Some.ensures)

pub returns-clause-chained : goal.returns-clause-chained
returns-clause-chained c l i s =
    let lt : c.args.node < length (nodes_of c.args.seats.now) = subst (λ n. c.args.node < n) (sym (length-nodes c.args.seats.now)) c.requires.node in
    cut_chained _ _ _ c.requires.chained l i c.args.node s _ (read_at _ _ _ lt c.node_of-at.ensures) blank _ (sym (ap (λ (n : Node). n.list) c.node_of-at.ensures) ∙ sym c.in-Some.ensures) _ c.index-ends-list.is _ _ _ _ _ c.choose.ensures c.choose-2.ensures c.none.ensures c.none-2.ensures c.none-3.ensures _ _ _ c.set_next.ensures.nodes c.set_prev.ensures.nodes c.set_node.ensures.nodes
