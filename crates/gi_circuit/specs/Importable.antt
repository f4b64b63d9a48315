-- Values that can be made circuits of.
use Rattle.std.specs.Prelude.{ℕ, ◌+◌, ◌^◌, ◌<◌, ◌≤◌, length}
use Rattle.gi_aiger.specs.declared.aig.Aig.{Aig}
use Rattle.gi_aiger.specs.Good.{IsGood}
use Rattle.gi_aiger.specs.Levels.{HasLevels, IsDistinct}
use Rattle.gi_circuit.specs.Import.{var_at, circuit_of}
use Rattle.gi_circuit.specs.Systems.{IsCircuit}

-- all that `from_aig` requires of a value
pub record IsImportable (v : Aig) : Type 0 where
  pub room : length v.inputs + length v.latches + length v.gates < 2 ^ 31
  pub outs : length v.outs < 2 ^ 32
  pub bads : length v.bads < 2 ^ 32
  pub cons : length v.cons < 2 ^ 32
  pub within : (k : ℕ) → k < length v.gates → var_at v.gates k ≤ v.max
  pub apart : IsDistinct v.gates
  pub acyclic : HasLevels v.gates

-- each value that some file says has it
abbrev pub GoodIsImportable : Type 0
GoodIsImportable = (v : Aig) → IsGood v → IsImportable v

-- and its circuit keeps what always holds of circuits
abbrev pub GoodIsCircuit : Type 0
GoodIsCircuit = (v : Aig) → IsGood v → IsCircuit (circuit_of v)
