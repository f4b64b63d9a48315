use Rattle.std.proofs.Common.{◌-◌}
use Rattle.gi_cdcl.specs.Values.{IsPassed}
use Rattle.gi_cdcl.proofs.decide.least_free.Given as goal

abbrev pub invariant-loop-passed : goal.invariant-loop-passed
invariant-loop-passed l = IsPassed l.store l.trail.lits l.passed

abbrev pub decreases-loop-passed : goal.decreases-loop-passed
decreases-loop-passed l = l.vars - l.passed
