use Rattle.gi_chains.specs.Lists.{items_at}
use Rattle.gi_prop.proofs.Visiting.{non_false}
use Rattle.gi_prop.proofs.Passing.{IsPassing}
use Rattle.gi_prop.proofs.unwatched.scan.Given as goal

abbrev pub invariant-nodes : goal.invariant-nodes
invariant-nodes l = IsPassing l.slots l.fn.first l.fn.second l.first l.second l.store l.fn.trail l.trail l.list l.at

abbrev pub decreases-nodes : goal.decreases-nodes
decreases-nodes l = non_false l.at (items_at l.first.lists l.list)
