-- Gates in an order by level.
use Rattle.std.proofs.Common.{◌≡◌, ℕ, ◌/◌, ◌<◌, List, length, map, refl, arith}
use Rattle.std.specs.List.{All, range_with_len}
use Rattle.std.proofs.lemmas.List.Sorted.{All-permutation}
use Rattle.gi_levels.proofs.Sorting.{all_below}
use Rattle.gi_aiger.specs.declared.aig.AndGate.{AndGate}
use Rattle.gi_aiger.specs.Levels.{gate_at, HasLevels, IsDistinct}
use Rattle.gi_aiger.specs.Places.{AreLevels, AreByLevel, variable_level, places_by_level}
use Rattle.gi_aiger.proofs.Resolving.{gates_have_levels}
use Rattle.gi_aiger_binary.specs.Renumbering.{in_order}

-- the variable that the gate at a place defines
abbrev pub var_at : List AndGate → ℕ → ℕ
var_at gates k = (gate_at gates k).lhs / 2

-- the gates at places that are by level
pub record IsByLevel (gates ordered : List AndGate) : Type 0 where
  pub level : ℕ → ℕ
  pub levels : AreLevels gates level
  pub places : List ℕ
  pub order : AreByLevel gates level places
  pub are : ordered ≡ map (gate_at gates) places

pub ordered_is : (gates : List AndGate) → IsDistinct gates → HasLevels gates → IsByLevel gates (in_order gates)
ordered_is gates d h =
    let g = gates_have_levels gates d h in
    record { level = variable_level gates; levels = g.0; places = places_by_level gates; order = g.1; are = refl }

pub places_inside : (gates ordered : List AndGate) (o : IsByLevel gates ordered) → All (λ k. k < length gates) o.places
places_inside gates ordered o = All-permutation (λ k. k < length gates) (range_with_len 0 (length gates)) o.places o.order.all (all_below 0 (length gates) (length gates) (omega arith))
