-- What levelling answers.
use Rattle.std.specs.Prelude.{List, Bool, true, false}
use Rattle.gi_levels.specs.declared.levels.Node.{Node}
use Rattle.gi_levels.specs.declared.levels.Levels.{Levels}
use Rattle.gi_levels.specs.declared.levels.Levels.TheVariants.{Found, Cycle}
use Rattle.gi_levels.specs.Levels.{AreLevels, HasLevels}

abbrev pub FindsLevels : List Node → Levels → Type 0
FindsLevels nodes (Found levels) = AreLevels nodes levels.items
FindsLevels nodes Cycle = HasLevels nodes → ⊥

abbrev pub is_found : Levels → Bool
is_found (Found levels) = true
is_found Cycle = false
