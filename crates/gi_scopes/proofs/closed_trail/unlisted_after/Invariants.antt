use Rattle.std.proofs.Common.{take}
use Rattle.std.specs.List.{All, Contains}
use Rattle.gi_model.specs.State.{scope_listed}
use Rattle.gi_scopes.proofs.closed_trail.unlisted_after.Given as goal

abbrev pub invariant-loop-level : goal.invariant-loop-level
invariant-loop-level l = All (Contains l.trail.lits) (scope_listed (take l.level-index l.levels))
