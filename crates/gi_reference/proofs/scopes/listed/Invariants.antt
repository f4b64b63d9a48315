use Rattle.std.proofs.Common.{◌≡◌, take}
use Rattle.gi_model.specs.State.{scope_listed}
use Rattle.gi_reference.proofs.scopes.listed.Given as goal

abbrev pub invariant-loop-level : goal.invariant-loop-level
invariant-loop-level l = l.all ≡ scope_listed (take l.level-index l.levels)
