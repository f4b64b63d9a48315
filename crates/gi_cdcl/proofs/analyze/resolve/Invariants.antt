use Rattle.std.proofs.Common.{◌-◌}
use Rattle.gi_cdcl.proofs.Resolving.{Resolving}
use Rattle.gi_cdcl.proofs.analyze.resolve.Given as goal

abbrev pub invariant-loop-at : goal.invariant-loop-at
invariant-loop-at l = Resolving l.store l.trail l.fn.conflict l.start l.at l.seen l.open

abbrev pub decreases-loop-at : goal.decreases-loop-at
decreases-loop-at l = l.at - l.start
