-- The nodes of a circuit: inputs, latches and and-gates, numbered from 1 in the order of their making.
use Rattle.std.specs.Prelude.{◌≡◌, ℕ, suc, ◌+◌, ◌*◌, ◌/◌, ◌^◌, ◌<◌, ◌≤◌, Bool, true, false, ◌&&◌, ◌||◌, ◌==◌, if◌then◌else◌, nat_lt, List, [], ◌∷◌, ◌++◌, Option, Some, None, length, fold, count_by, slice_index_or, slice_get}
use Rattle.gi_lit.specs.Literals.{opposite}
use Rattle.gi_circuit.specs.Values.{value_in}
use Rattle.gi_circuit.specs.declared.node.Pair.{Pair}
use Rattle.gi_circuit.specs.declared.node.Node.{Node}
use Rattle.gi_circuit.specs.declared.node.Node.TheVariants.{Input, Latch, Gate}

-- the value of a node, from those of the nodes before it
abbrev pub value_of : List Bool → List Bool → List Bool → Node → Bool
value_of inputs latches values (Input j) = slice_index_or inputs j false
value_of inputs latches values (Latch j) = slice_index_or latches j false
value_of inputs latches values (Gate a b) = value_in values a && value_in values b

-- the values of all nodes, that of node k at place k; node 0 is false
abbrev pub node_values : List Bool → List Bool → List Node → List Bool
node_values inputs latches nodes = fold (λ values n. values ++ value_of inputs latches values n ∷ []) (false ∷ []) nodes

-- how many inputs and latches there are, and the nodes from 1 on
pub record Parts : Type 0 where
  pub inputs : ℕ
  pub latches : ℕ
  pub nodes : List Node

abbrev pub no_parts : Parts
no_parts = record { inputs = 0; latches = 0; nodes = [] }

-- whether the node is a gate
abbrev pub is_gate : Node → Bool
is_gate (Input j) = false
is_gate (Latch j) = false
is_gate (Gate a b) = true

-- the node numbered k + 1 is an input or a latch of those there are, or a gate of smaller nodes, the smaller edge first
abbrev pub IsPlaced : ℕ → ℕ → ℕ → Node → Type 0
IsPlaced inputs latches k (Input j) = j < inputs
IsPlaced inputs latches k (Latch j) = j < latches
IsPlaced inputs latches k (Gate a b) = (a < b) × (b / 2 ≤ k)

-- each gate stands behind its operands
pub record IsOrdered (c : Parts) : Type 0 where
  pub each : (k : ℕ) → k < length c.nodes → IsPlaced c.inputs c.latches k (slice_index_or c.nodes k (Input 0))

-- no pair stands twice
pub record HasNoTwins (nodes : List Node) : Type 0 where
  pub each : (i j a b : ℕ) → slice_get nodes i ≡ Some (Gate a b) → slice_get nodes j ≡ Some (Gate a b) → i ≡ j

-- what always holds of nodes
pub record AreNodesSound (c : Parts) : Type 0 where
  pub ordered : IsOrdered c
  pub no_twins : HasNoTwins c.nodes
  pub counted : c.inputs + c.latches + count_by is_gate c.nodes ≡ length c.nodes
  pub small : length c.nodes < 2 ^ 31

-- an input more
abbrev pub with_input : Parts → Parts
with_input c = record c { inputs = c.inputs + 1; nodes = c.nodes ++ Input c.inputs ∷ [] }

-- a latch more
abbrev pub with_latch : Parts → Parts
with_latch c = record c { latches = c.latches + 1; nodes = c.nodes ++ Latch c.latches ∷ [] }

-- the edge of the node that comes next
abbrev pub next_edge : Parts → ℕ
next_edge c = 2 * (length c.nodes + 1)

-- the number of the gate of a pair, where the first node has number n
abbrev pub gate_from : ℕ → List Node → ℕ → ℕ → Option ℕ
gate_from n [] low high = None
gate_from n (Input j ∷ ns) low high = gate_from (suc n) ns low high
gate_from n (Latch j ∷ ns) low high = gate_from (suc n) ns low high
gate_from n (Gate a b ∷ ns) low high = if low == a && high == b then Some n else gate_from (suc n) ns low high

-- what a conjunction is without a gate
abbrev pub folded : ℕ → ℕ → Option ℕ
folded a b = if a == 0 || b == 0 then Some 0 else if a == 1 then Some b else if b == 1 then Some a else if a == b then Some a else if a == opposite b then Some 0 else None

-- nodes, and an edge that was made
pub record Made : Type 0 where
  pub nodes : List Node
  pub edge : ℕ

-- the gate of a pair: the one of that number, or a new one
abbrev pub gate_in : List Node → ℕ → ℕ → Option ℕ → Made
gate_in nodes low high (Some k) = record { nodes = nodes; edge = 2 * k }
gate_in nodes low high None = record { nodes = nodes ++ Gate low high ∷ []; edge = 2 * (length nodes + 1) }

abbrev pub and_or : List Node → ℕ → ℕ → Option ℕ → Made
and_or nodes a b (Some e) = record { nodes = nodes; edge = e }
and_or nodes a b None = if nat_lt a b then gate_in nodes a b (gate_from 1 nodes a b) else gate_in nodes b a (gate_from 1 nodes b a)

-- the conjunction of two edges: folded, found or made
unfoldable pub and_in : List Node → ℕ → ℕ → Made
and_in nodes a b = and_or nodes a b (folded a b)

-- the circuit has what was made
pub record IsMade (old new : Parts) (made : Made) (edge : ℕ) : Type 0 where
  pub nodes : new ≡ record old { nodes = made.nodes }
  pub edge_is : edge ≡ made.edge

-- the two edges, the smaller one first
abbrev pub pair_of : ℕ → ℕ → Pair
pair_of a b = if nat_lt a b then record { low = a; high = b } else record { low = b; high = a }

-- the pairs of the gates with their numbers, where the first node has number n
abbrev pub entries_from : ℕ → List Node → List (Pair × ℕ)
entries_from n [] = []
entries_from n (Input j ∷ ns) = entries_from (suc n) ns
entries_from n (Latch j ∷ ns) = entries_from (suc n) ns
entries_from n (Gate a b ∷ ns) = (record { low = a; high = b }, n) ∷ entries_from (suc n) ns
