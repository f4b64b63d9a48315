-- The gates of the binary form, as differences in groups of seven bits.
use Rattle.std.specs.Prelude.{◌≡◌, ℕ, ◌+◌, ◌*◌, ◌-◌, ◌%◌, ◌<◌, ◌≤◌, List, [], ◌∷◌, ◌++◌}
use Rattle.gi_aiger.specs.declared.aig.AndGate.{AndGate}

-- groups stand for a number: each byte's lower seven bits, lowest first; all bytes but the last have the high bit set, and the last is 0 only where it is alone
abbrev pub IsDelta : List ℕ → ℕ → Type 0
IsDelta [] n = ⊥
IsDelta (b ∷ []) n = (b < 128) × (n ≡ b)
IsDelta (b ∷ c ∷ bs) n = (128 ≤ b) × (high : ℕ) × (0 < high) × (n ≡ b % 128 + 128 * high) × IsDelta (c ∷ bs) high

-- two differences are a gate: from the gate to its greater operand, and from that to the other
pub record IsGate (gate : AndGate) (bytes : List ℕ) : Type 0 where
  pub first : List ℕ
  pub second : List ℕ
  pub bytes_are : bytes ≡ first ++ second
  pub below : gate.rhs0 < gate.lhs
  pub ordered : gate.rhs1 ≤ gate.rhs0
  pub to_first : IsDelta first (gate.lhs - gate.rhs0)
  pub to_second : IsDelta second (gate.rhs0 - gate.rhs1)

-- gates, one after another
abbrev pub AreGates : List AndGate → List ℕ → Type 0
AreGates [] bytes = bytes ≡ []
AreGates (gate ∷ gates) bytes = (front : List ℕ) × (rest : List ℕ) × (bytes ≡ front ++ rest) × IsGate gate front × AreGates gates rest
