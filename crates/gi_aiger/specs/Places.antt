-- Gates as nodes, by the places of their operands.
use Rattle.std.specs.Prelude.{◌≡◌, ◌≢◌, ℕ, suc, ◌/◌, ◌<◌, ◌==◌, ◌⊎◌, if◌then◌else◌, max, List, [], ◌∷◌, length, map}
use Rattle.std.specs.List.{range_with_len}
use Rattle.std.specs.List.Sorted.{IsPermutation, IsNonDecreasingBy}
use Rattle.gi_levels.specs.declared.levels.Node.{Node}
use Rattle.gi_levels.specs.Order.{by_level, level_of}
use Rattle.gi_aiger.specs.declared.aig.AndGate.{AndGate}
use Rattle.gi_aiger.specs.Levels.{gate_at, HasLevels, IsDistinct}

-- of the first gates none defines the variable, or that at the place does
abbrev pub IsPlace : List AndGate → ℕ → ℕ → ℕ → Type 0
IsPlace gates count v p = ((p ≡ length gates) × ((o : ℕ) → o < count → (gate_at gates o).lhs / 2 ≢ v)) ⊎ ((p < count) × ((gate_at gates p).lhs / 2 ≡ v))

-- the places of the first gates, by the variables that they define
pub record ArePlaces (gates : List AndGate) (count : ℕ) (place : ℕ → ℕ) : Type 0 where
  pub each : (v : ℕ) → IsPlace gates count v (place v)

-- a gate as a node, by the places of its operands
abbrev pub node_by : (ℕ → ℕ) → AndGate → Node
node_by place gate = record { left = place (gate.rhs0 / 2); right = place (gate.rhs1 / 2) }

-- the gates as nodes
pub record Resolves (gates : List AndGate) (nodes : List Node) : Type 0 where
  pub place : ℕ → ℕ
  pub are : (v : ℕ) → IsPlace gates (length gates) v (place v)
  pub nodes_are : nodes ≡ map (node_by place) gates

-- the place of the first gate that defines a variable; how many gates there are where none does
unfoldable pub place_of : List AndGate → ℕ → ℕ
place_of [] v = 0
place_of (g ∷ gs) v = if g.lhs / 2 == v then 0 else suc (place_of gs v)

abbrev pub nodes_of : List AndGate → List Node
nodes_of gates = map (node_by (place_of gates)) gates

-- the places of the gates by level, and within a level in their order
abbrev pub places_by_level : List AndGate → List ℕ
places_by_level gates = by_level (nodes_of gates)

-- the level of the gate that defines a variable; where none does it is 0
abbrev pub variable_level : List AndGate → ℕ → ℕ
variable_level gates v = level_of (nodes_of gates) (place_of gates v)

-- a gate's level is one more than the greater level of its operands; what no gate defines has level 0
pub record AreLevels (gates : List AndGate) (level : ℕ → ℕ) : Type 0 where
  pub gate : (k : ℕ) → k < length gates → level ((gate_at gates k).lhs / 2) ≡ suc (max (level ((gate_at gates k).rhs0 / 2)) (level ((gate_at gates k).rhs1 / 2)))
  pub other : (v : ℕ) → ((k : ℕ) → k < length gates → (gate_at gates k).lhs / 2 ≢ v) → level v ≡ 0

-- places of gates: each once, and by level
pub record AreByLevel (gates : List AndGate) (level : ℕ → ℕ) (places : List ℕ) : Type 0 where
  pub all : IsPermutation (range_with_len 0 (length gates)) places
  pub rises : IsNonDecreasingBy (λ k. level ((gate_at gates k).lhs / 2)) places

-- gates without cycles have the levels of the function, and its order is by level
abbrev pub GatesHaveLevels : Type 0
GatesHaveLevels = (gates : List AndGate) → IsDistinct gates → HasLevels gates → AreLevels gates (variable_level gates) × AreByLevel gates (variable_level gates) (places_by_level gates)
