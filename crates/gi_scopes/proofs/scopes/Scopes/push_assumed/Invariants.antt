use Rattle.std.proofs.Common.{◌≡◌, ◌++◌, take}
use Rattle.gi_model.specs.State.{scope_assumed}
use Rattle.gi_scopes.proofs.scopes.Scopes.push_assumed.Given as goal

abbrev pub invariant-loop-level : goal.invariant-loop-level
invariant-loop-level l = l.to ≡ l.fn.to ++ scope_assumed (take l.level-index l.level-items)
