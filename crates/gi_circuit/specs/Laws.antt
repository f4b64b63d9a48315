-- Laws of conjunctions.
use Rattle.std.specs.Prelude.{◌≡◌, ℕ, ◌/◌, ◌≤◌, Bool, ◌&&◌, List, ◌++◌, length}
use Rattle.gi_circuit.specs.Values.{value_in}
use Rattle.gi_circuit.specs.Nodes.{Parts, node_values, IsOrdered, Made, and_in}
use Rattle.gi_circuit.specs.declared.node.Node.{Node}

-- what a conjunction leaves: the nodes with perhaps one more, and an edge of the conjunction's value
pub record IsConjunction (inputs latches : List Bool) (c : Parts) (a b : ℕ) (m : Made) : Type 0 where
  pub more : List Node
  pub nodes : m.nodes ≡ c.nodes ++ more
  pub within : m.edge / 2 ≤ length m.nodes
  pub value : value_in (node_values inputs latches m.nodes) m.edge ≡ (value_in (node_values inputs latches c.nodes) a && value_in (node_values inputs latches c.nodes) b)

-- whatever inputs and latches hold
abbrev pub ConjunctionsHaveTheirValues : Type 0
ConjunctionsHaveTheirValues = (c : Parts) (a b : ℕ) → IsOrdered c → a / 2 ≤ length c.nodes → b / 2 ≤ length c.nodes → (inputs latches : List Bool) → IsConjunction inputs latches c a b (and_in c.nodes a b)

-- nodes that are there keep their values when others are made
abbrev pub ValuesStay : Type 0
ValuesStay = (inputs latches : List Bool) (nodes more : List Node) (e : ℕ) → e / 2 ≤ length nodes → value_in (node_values inputs latches (nodes ++ more)) e ≡ value_in (node_values inputs latches nodes) e

-- the order of the two edges doesn't matter
abbrev pub OrderDoesNotMatter : Type 0
OrderDoesNotMatter = (nodes : List Node) (a b : ℕ) → and_in nodes b a ≡ and_in nodes a b

-- a conjunction that was made is found again
abbrev pub ConjunctionsComeAgain : Type 0
ConjunctionsComeAgain = (nodes : List Node) (a b : ℕ) → and_in (and_in nodes a b).nodes a b ≡ and_in nodes a b
