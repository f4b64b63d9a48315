use Rattle.std.proofs.Common.{take}
use Rattle.std.specs.List.{All, Contains}
use Rattle.gi_store.proofs.store.Store.are_active.Given as goal

abbrev pub invariant-loop-g : goal.invariant-loop-g
invariant-loop-g l = All (Contains l.self.active) (take l.g-index l.guards)
