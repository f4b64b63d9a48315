use Rattle.gi_scopes.proofs.Placing.{PlacingTo}
use Rattle.gi_scopes.proofs.level.place_of.Given as goal

abbrev pub invariant-loop-level : goal.invariant-loop-level
invariant-loop-level l = PlacingTo l.levels l.m l.level-index l.before
