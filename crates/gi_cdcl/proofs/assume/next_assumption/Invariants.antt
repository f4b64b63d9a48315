use Rattle.std.proofs.Common.{take, length, ◌-◌}
use Rattle.std.specs.List.{All, Contains}
use Rattle.gi_cdcl.proofs.assume.next_assumption.Given as goal

abbrev pub invariant-loop-passed : goal.invariant-loop-passed
invariant-loop-passed l = All (Contains l.trail.lits) (take l.passed l.assumed)

abbrev pub decreases-loop-passed : goal.decreases-loop-passed
decreases-loop-passed l = length l.assumed - l.passed
