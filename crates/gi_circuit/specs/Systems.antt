-- Circuits over time: latches have a reset and a next state, and some edges are outputs, bad states or constraints.
use Rattle.std.specs.Prelude.{◌≡◌, ℕ, zero, suc, ◌/◌, ◌^◌, ◌<◌, ◌≤◌, Bool, true, false, List, [], ◌∷◌, ◌++◌, length, drop, map, slice_index_or, All}
use Rattle.gi_aiger.specs.declared.aig.Reset.{Reset}
use Rattle.gi_aiger.specs.declared.aig.Reset.TheVariants.{Zero, One, Free}
use Rattle.gi_circuit.specs.Values.{value_in}
use Rattle.gi_circuit.specs.Nodes.{Parts, no_parts, node_values, AreNodesSound, with_input, with_latch, next_edge}

-- a circuit: each latch, by its place, has a reset and the edge of its next state
pub record System : Type 0 where
  pub parts : Parts
  pub resets : List Reset
  pub nexts : List ℕ
  pub outs : List ℕ
  pub bads : List ℕ  -- bad states
  pub cons : List ℕ  -- constraints

abbrev pub empty_system : System
empty_system = record { parts = no_parts; resets = []; nexts = []; outs = []; bads = []; cons = [] }

-- an input more
abbrev pub input_added : System → System
input_added s = record s { parts = with_input s.parts }

-- a latch more, which keeps its value
abbrev pub latch_added : System → Reset → System
latch_added s r = record s { parts = with_latch s.parts; resets = s.resets ++ r ∷ []; nexts = s.nexts ++ next_edge s.parts ∷ [] }

-- each latch has a reset and a next state, and edges are of nodes that exist
pub record IsWired (s : System) : Type 0 where
  pub resets : length s.resets ≡ s.parts.latches
  pub nexts : length s.nexts ≡ s.parts.latches
  pub next_nodes : All (λ e. e / 2 ≤ length s.parts.nodes) s.nexts
  pub out_nodes : All (λ e. e / 2 ≤ length s.parts.nodes) s.outs
  pub bad_nodes : All (λ e. e / 2 ≤ length s.parts.nodes) s.bads
  pub con_nodes : All (λ e. e / 2 ≤ length s.parts.nodes) s.cons
  pub outs_fit : length s.outs < 2 ^ 32
  pub bads_fit : length s.bads < 2 ^ 32
  pub cons_fit : length s.cons < 2 ^ 32

-- what always holds of a circuit
pub record IsCircuit (s : System) : Type 0 where
  pub net : AreNodesSound s.parts
  pub wired : IsWired s

-- what the latches begin with: the free ones take the values in order
abbrev pub reset_values : List Bool → List Reset → List Bool
reset_values free [] = []
reset_values free (Zero ∷ rs) = false ∷ reset_values free rs
reset_values free (One ∷ rs) = true ∷ reset_values free rs
reset_values free (Free ∷ rs) = slice_index_or free 0 false ∷ reset_values (drop 1 free) rs

-- what the latches hold at a time: their resets at time 0, and later the values of their next states one step before
unfoldable pub latch_values : System → (ℕ → List Bool) → List Bool → ℕ → List Bool
latch_values s inputs free zero = reset_values free s.resets
latch_values s inputs free (suc t) = map (value_in (node_values (inputs t) (latch_values s inputs free t) s.parts.nodes)) s.nexts

-- the value of an edge at a time, by direct evaluation of the gates
abbrev pub value : System → ℕ → ℕ → (ℕ → List Bool) → List Bool → Bool
value s t e inputs free = value_in (node_values (inputs t) (latch_values s inputs free t) s.parts.nodes) e
