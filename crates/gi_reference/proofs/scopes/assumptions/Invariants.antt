use Rattle.std.proofs.Common.{◌≡◌, take}
use Rattle.gi_model.specs.State.{scope_assumed}
use Rattle.gi_reference.proofs.scopes.assumptions.Given as goal

abbrev pub invariant-loop-level : goal.invariant-loop-level
invariant-loop-level l = l.all ≡ scope_assumed (take l.level-index l.levels)
