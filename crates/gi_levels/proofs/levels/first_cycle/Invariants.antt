use Rattle.std.proofs.Common.{◌<◌, ◌≤◌, ◌-◌, length, take}
use Rattle.gi_levels.specs.Levels.{HasLevels}
use Rattle.gi_levels.proofs.levels.first_cycle.Given as goal

abbrev pub invariant-halves : goal.invariant-halves
invariant-halves l = record { ordered : l.good < l.bad; within : l.bad ≤ length l.nodes; good : HasLevels (take l.good l.nodes); bad : HasLevels (take l.bad l.nodes) → ⊥ }

abbrev pub decreases-halves : goal.decreases-halves
decreases-halves l = l.bad - l.good
