-- What values must have to be numbered anew and written, and to be read back.
use Rattle.std.specs.Prelude.{◌≡◌, ◌≢◌, ℕ, ◌+◌, ◌%◌, ◌^◌, ◌<◌, ◌≤◌, length, All}
use Rattle.std.specs.List.{AllPairs}
use Rattle.gi_aiger.specs.declared.aig.Aig.{Aig}
use Rattle.gi_aiger.specs.declared.aig.AndGate.{AndGate}
use Rattle.gi_aiger.specs.declared.aig.Latch.{Latch}
use Rattle.gi_aiger.specs.Levels.{HasLevels, IsDistinct}
use Rattle.gi_aiger_binary.specs.Renumbering.{variables_of}
use Rattle.gi_aiger_binary.specs.Numbered.{IsInLimits}

-- no cycle of gates, no variable that two gates define, and room for the new numbers
pub record IsWritable (v : Aig) : Type 0 where
  pub room : length v.inputs + length v.latches + length v.gates < 2 ^ 31
  pub apart : IsDistinct v.gates
  pub levels : HasLevels v.gates

-- a literal that defines its variable: even, and not 0
abbrev pub IsDefining : ℕ → Type 0
IsDefining l = (l % 2 ≡ 0) × (2 ≤ l)

-- no variable is defined twice, and the counts are within the limits
pub record IsReadable (v : Aig) : Type 0 where
  pub inputs : All IsDefining v.inputs
  pub latches : All (λ (l : Latch). IsDefining l.lit) v.latches
  pub gates : All (λ (g : AndGate). IsDefining g.lhs) v.gates
  pub once : AllPairs (λ a b. a ≢ b) (variables_of v v.gates)
  pub limits : IsInLimits v
