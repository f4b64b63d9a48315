use Rattle.std.proofs.Common.{take}
use Rattle.gi_model.specs.Tests.{SomeFailed}
use Rattle.gi_scopes.proofs.level.first_failing.Given as goal

abbrev pub invariant-loop-level : goal.invariant-loop-level
invariant-loop-level l = ¬ SomeFailed (take l.level-index l.levels)
