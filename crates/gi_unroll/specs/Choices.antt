-- Choices and traces: what values choose, what values depend on, and how a trace is packed into a
-- choice.
use Rattle.std.specs.Prelude.{◌≡◌, ℕ, zero, suc, ◌<◌, ◌≤◌, Bool, false, List, [], ◌∷◌, ◌++◌, drop, map, slice_index_or, slice_index}
use Rattle.std.specs.List.{range_with_len}
use Rattle.gi_lit.specs.Truth.{true_in}
use Rattle.gi_circuit.specs.Systems.{System, IsCircuit, latch_values, value}
use Rattle.gi_circuit.specs.Encoding.{free_count, inputs_at, free_at}
use Rattle.gi_circuit.specs.declared.node.Node.{Node}
use Rattle.gi_circuit.specs.declared.node.Node.TheVariants.{Input, Latch, Gate}

-- what the inputs among nodes hold, in their order, where the values make the nodes' literals true
-- or false
unfoldable pub read_choice : List Bool → List Node → List ℕ → List Bool
read_choice values [] lits = []
read_choice values (Input j ∷ ns) lits = true_in values (slice_index lits 0)
    ∷ read_choice values ns (drop 1 lits)
read_choice values (Latch j ∷ ns) lits = read_choice values ns (drop 1 lits)
read_choice values (Gate a b ∷ ns) lits = read_choice values ns (drop 1 lits)

-- the choice that values make of nodes, where node k has the literal at place k
abbrev pub choice_of : List Bool → List Node → List ℕ → List Bool
choice_of values net lits = read_choice values net (drop 1 lits)

-- two lists hold the same in the first n places, where false stands past an end
abbrev pub AgreeUpTo : ℕ → List Bool → List Bool → Type 0
AgreeUpTo n xs ys = (j : ℕ) → j < n → slice_index_or xs j false ≡ slice_index_or ys j false

-- two traces have the same inputs up to a time, and begin with the same free latches, as far as the
-- circuit has such
pub record SameTrace (s : System) (t : ℕ) (inputs others : ℕ → List Bool)
    (free rest : List Bool) : Type 0 where
  pub inputs_agree : (u : ℕ) → u ≤ t → AgreeUpTo s.parts.inputs (inputs u) (others u)
  pub free_agree : AgreeUpTo (free_count s.resets) free rest

-- values at a time depend on the first inputs up to it, and on the first free latches, alone
pub record DependOnFirst (s : System) : Type 0 where
  pub latches : (t : ℕ) (inputs others : ℕ → List Bool) (free rest : List Bool)
      → SameTrace s t inputs others free rest
      → latch_values s inputs free t ≡ latch_values s others rest t
  pub edges : (t e : ℕ) (inputs others : ℕ → List Bool) (free rest : List Bool)
      → SameTrace s t inputs others free rest → value s t e inputs free ≡ value s t e others rest

abbrev pub ValuesDependOnFirst : Type 0
ValuesDependOnFirst = (s : System) → IsCircuit s → DependOnFirst s

-- the first n places, with false past the end
abbrev pub first_places : ℕ → List Bool → List Bool
first_places n xs = map (λ j. slice_index_or xs j false) (range_with_len 0 n)

-- a trace as a choice: the inputs at time 0, the free latches, and the inputs at each later time
unfoldable pub packed : System → (ℕ → List Bool) → List Bool → ℕ → List Bool
packed s inputs free zero = first_places s.parts.inputs (inputs 0)
    ++ first_places (free_count s.resets) free
packed s inputs free (suc t) = packed s inputs free t
    ++ first_places s.parts.inputs (inputs (suc t))

-- the choice says the trace
abbrev pub TracesArePacked : Type 0
TracesArePacked = (s : System) (t : ℕ) (inputs : ℕ → List Bool) (free : List Bool)
    → SameTrace s t (inputs_at s (packed s inputs free t)) inputs
    (free_at s (packed s inputs free t)) free
