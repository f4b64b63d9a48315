use Rattle.std.proofs.Common.{take}
use Rattle.gi_model.specs.State.{scope_listed}
use Rattle.gi_scopes.specs.Listing.{ArePlaces}
use Rattle.gi_scopes.proofs.implied.known_places.Given as goal

abbrev pub invariant-loop-level : goal.invariant-loop-level
invariant-loop-level l = ArePlaces l.trail.lits l.from (scope_listed (take l.level-index l.levels)) l.marks.items
