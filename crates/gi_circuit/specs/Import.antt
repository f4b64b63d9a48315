-- A circuit from what an AIGER file says: inputs and latches in order, then gates by level and place.
use Rattle.std.specs.Prelude.{ℕ, ◌+◌, ◌/◌, List, map, fold, replicate, slice_set}
use Rattle.gi_aiger.specs.declared.aig.Aig.{Aig}
use Rattle.gi_aiger.specs.declared.aig.Latch.{Latch}
use Rattle.gi_aiger.specs.declared.aig.AndGate.{AndGate}
use Rattle.gi_aiger.specs.Levels.{gate_at}
use Rattle.gi_aiger.specs.Places.{places_by_level}
use Rattle.gi_circuit.specs.Nodes.{and_in, next_edge}
use Rattle.gi_circuit.specs.Systems.{System, empty_system, input_added, latch_added}
use Rattle.gi_circuit.specs.Frames.{edge_of}

-- the variable that the gate at a place defines
abbrev pub var_at : List AndGate → ℕ → ℕ
var_at gates k = (gate_at gates k).lhs / 2

-- a circuit, and the edge of each variable; that of the constant is 0
pub record Imported : Type 0 where
  pub system : System
  pub edges : List ℕ

-- with nothing yet
abbrev pub imported_none : ℕ → Imported
imported_none max = record { system = empty_system; edges = replicate (max + 1) 0 }

-- the literal of an input
abbrev pub with_input_of : Imported → ℕ → Imported
with_input_of m l = record { system = input_added m.system; edges = slice_set m.edges (l / 2) (next_edge m.system.parts) }

-- a latch, whose next state is set later
abbrev pub with_latch_of : Imported → Latch → Imported
with_latch_of m l = record { system = latch_added m.system l.reset; edges = slice_set m.edges (l.lit / 2) (next_edge m.system.parts) }

-- a gate is the conjunction of what stands for its operands
abbrev pub with_gate_of : Imported → AndGate → Imported
with_gate_of m g = record {
  system = record m.system { parts = record m.system.parts { nodes = (and_in m.system.parts.nodes (edge_of m.edges g.rhs0) (edge_of m.edges g.rhs1)).nodes } };
  edges = slice_set m.edges (g.lhs / 2) (and_in m.system.parts.nodes (edge_of m.edges g.rhs0) (edge_of m.edges g.rhs1)).edge;
}

-- with next states, outputs, bad states and constraints
abbrev pub finished : Imported → Aig → System
finished m a = record m.system {
  nexts = map (λ (l : Latch). edge_of m.edges l.next) a.latches;
  outs = map (edge_of m.edges) a.outs;
  bads = map (edge_of m.edges) a.bads;
  cons = map (edge_of m.edges) a.cons;
}

-- what is made of inputs, latches and gates, the gates in the order of these places
abbrev pub imported : Aig → List ℕ → Imported
imported a places = fold (λ m (k : ℕ). with_gate_of m (gate_at a.gates k)) (fold with_latch_of (fold with_input_of (imported_none a.max) a.inputs) a.latches) places

unfoldable pub system_of : Aig → List ℕ → System
system_of a places = finished (imported a places) a

-- the circuit that a value says: the gates by level, and within a level in their order
abbrev pub circuit_of : Aig → System
circuit_of a = system_of a (places_by_level a.gates)
