-- Gates without cycles.
use Rattle.std.specs.Prelude.{◌≡◌, ℕ, ◌+◌, ◌/◌, ◌<◌, List, length, take, slice_index_or}
use Rattle.gi_aiger.specs.declared.aig.AndGate.{AndGate}

abbrev pub gate_at : List AndGate → ℕ → AndGate
gate_at gates k = slice_index_or gates k (record { lhs = 0; rhs0 = 0; rhs1 = 0 })

-- there are no cycles: each variable has a level that falls from each gate to its operands
pub record HasLevels (gates : List AndGate) : Type 0 where
  pub level : ℕ → ℕ
  pub left : (k : ℕ) → k < length gates → level ((gate_at gates k).rhs0 / 2) < level ((gate_at gates k).lhs / 2)
  pub right : (k : ℕ) → k < length gates → level ((gate_at gates k).rhs1 / 2) < level ((gate_at gates k).lhs / 2)

-- this gate closes a cycle with the gates before it, and those have none
pub record ClosesCycle (gates : List AndGate) (k : ℕ) : Type 0 where
  pub within : k < length gates
  pub before : HasLevels (take k gates)
  pub closes : HasLevels (take (k + 1) gates) → ⊥

-- no two gates define the same variable
pub record IsDistinct (gates : List AndGate) : Type 0 where
  pub apart : (j k : ℕ) → j < length gates → k < length gates → (gate_at gates j).lhs / 2 ≡ (gate_at gates k).lhs / 2 → j ≡ k
