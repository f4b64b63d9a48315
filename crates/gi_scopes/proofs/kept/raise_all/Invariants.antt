use Rattle.gi_scopes.proofs.Leveling.{BuildingTo}
use Rattle.gi_scopes.proofs.kept.raise_all.Given as goal

abbrev pub invariant-loop-level : goal.invariant-loop-level
invariant-loop-level l = BuildingTo l.store l.kept l.levels l.level-index
