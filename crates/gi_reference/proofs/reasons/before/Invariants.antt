use Rattle.std.proofs.Common.{◌≡◌, ◌++◌, drop}
use Rattle.gi_model.specs.Tests.{before}
use Rattle.gi_reference.proofs.reasons.before.Given as goal

abbrev pub invariant-loop-level : goal.invariant-loop-level
invariant-loop-level l = l.all ++ before (drop l.level-index l.levels) l.m ≡ before l.levels l.m
