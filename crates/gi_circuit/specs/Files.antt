-- What the gates of an AIGER file say of values, and circuits that mean the file.
use Rattle.std.specs.Prelude.{◌≡◌, ℕ, ◌<◌, Bool, false, not, ◌&&◌, List, length, map, slice_index, slice_index_or}
use Rattle.gi_lit.specs.Literals.{opposite}
use Rattle.gi_aiger.specs.declared.aig.Aig.{Aig}
use Rattle.gi_aiger.specs.declared.aig.Latch.{Latch}
use Rattle.gi_aiger.specs.declared.aig.Reset.TheVariants.{Zero}
use Rattle.gi_aiger.specs.Good.{IsGood}
use Rattle.gi_circuit.specs.Values.{value_in}
use Rattle.gi_circuit.specs.Nodes.{node_values}
use Rattle.gi_circuit.specs.Systems.{System}
use Rattle.gi_aiger.specs.Levels.{gate_at}
use Rattle.gi_circuit.specs.Import.{circuit_of}

-- the latch at a place
abbrev pub latch_at : List Latch → ℕ → Latch
latch_at latches k = slice_index_or latches k (record { lit = 0; next = 0; reset = Zero })

-- values of the literals: inputs and latches hold these, and each gate is the conjunction of its operands
pub record AreValues (v : Aig) (inputs latches : List Bool) (holds : ℕ → Bool) : Type 0 where
  pub constant : holds 0 ≡ false
  pub negation : (l : ℕ) → holds (opposite l) ≡ not (holds l)
  pub input : (k : ℕ) → k < length v.inputs → holds (slice_index v.inputs k) ≡ slice_index_or inputs k false
  pub latch : (k : ℕ) → k < length v.latches → holds (latch_at v.latches k).lit ≡ slice_index_or latches k false
  pub gate : (k : ℕ) → k < length v.gates → holds (gate_at v.gates k).lhs ≡ (holds (gate_at v.gates k).rhs0 && holds (gate_at v.gates k).rhs1)

-- a circuit has an edge for each literal of the file, and these edges have the values that the file says, whatever inputs and latches hold
pub record MeansFile (v : Aig) (s : System) : Type 0 where
  pub edge : ℕ → ℕ
  pub values : (inputs latches : List Bool) → AreValues v inputs latches (λ l. value_in (node_values inputs latches s.parts.nodes) (edge l))
  pub inputs : s.parts.inputs ≡ length v.inputs
  pub latches : s.parts.latches ≡ length v.latches
  pub resets : s.resets ≡ map (λ (l : Latch). l.reset) v.latches
  pub nexts : s.nexts ≡ map (λ (l : Latch). edge l.next) v.latches
  pub outs : s.outs ≡ map edge v.outs
  pub bads : s.bads ≡ map edge v.bads
  pub cons : s.cons ≡ map edge v.cons

-- the circuit that is made of a value that some file says means that file
abbrev pub CircuitsMeanTheirFiles : Type 0
CircuitsMeanTheirFiles = (v : Aig) → IsGood v → MeansFile v (circuit_of v)
