use Rattle.gi_chains.specs.Lists.{items_at}
use Rattle.gi_prop.proofs.Visiting.{IsVisiting, non_false}
use Rattle.std.proofs.Common.{◌+◌}
use Rattle.gi_prop.proofs.follow.visit.Given as goal

abbrev pub invariant-nodes : goal.invariant-nodes
invariant-nodes g l = IsVisiting l.slots l.fn.ours l.ours l.theirs l.store l.fn.trail l.trail g.seen l.falsified l.at

abbrev pub decreases-nodes : goal.decreases-nodes
decreases-nodes g l = non_false l.at (items_at l.ours.lists (l.falsified + 1))

abbrev pub ghost-settle : goal.ghost-settle
ghost-settle g a = g.seen
