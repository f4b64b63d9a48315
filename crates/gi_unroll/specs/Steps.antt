-- What is kept while a frame is made.
use Rattle.std.specs.Prelude.{◌≡◌, ℕ, ◌+◌, ◌*◌, ◌/◌, ◌<◌, ◌≤◌, List, [], ◌∷◌, ◌++◌, length, slice_index, All}
use Rattle.gi_circuit.specs.Nodes.{Parts, pair_of}
use Rattle.gi_circuit.specs.Frames.{Draft, Along, Frames, lit_of, gate_clauses}
use Rattle.gi_circuit.specs.declared.node.Node.{Node}
use Rattle.gi_circuit.specs.declared.node.Node.TheVariants.{Input, Latch, Gate}
use Rattle.std.specs.List.{range_with_len}

abbrev pub empty_draft : Draft
empty_draft = record { net = []; choices = 0; lits = []; next = 0; clauses = []; edges = [] }

-- the shared circuit as nodes with counts
abbrev pub parts_of : Draft → Parts
parts_of d = record { inputs = d.choices; latches = 0; nodes = d.net }

-- the frames that a draft, the edges of the next latch states and the number of frames make up
abbrev pub frames_of : Draft → List ℕ → ℕ → Frames
frames_of d latches made =
    record { net = d.net; choices = d.choices; lits = d.lits; latches = latches; made = made }

abbrev pub along : Draft → List ℕ → Along
along d edges = record { draft = d; edges = edges }

-- a variable for the gate of two edges, with its clauses
abbrev pub defined : Draft → ℕ → ℕ → Draft
defined d a b = record d {
  lits = d.lits ++ 2 * d.next ∷ [];
  next = d.next + 1;
  clauses = d.clauses ++ gate_clauses (2 * d.next) (lit_of d.lits (pair_of a b).low)
      (lit_of d.lits (pair_of a b).high);
}

-- each node has a literal, and there are fewer nodes than variables below the next one
pub record IsReady (d : Draft) : Type 0 where
  pub count : length d.lits ≡ length d.net + 1
  pub fits : length d.lits < d.next

-- the first n nodes of the circuit have edges
pub record HasEdges (n : ℕ) (d : Draft) : Type 0 where
  pub count : length d.edges ≡ n + 1
  pub within : All (λ e. e / 2 ≤ length d.net) d.edges

-- nodes and literals were only put behind those there were
pub record IsLonger (old new : Draft) : Type 0 where
  pub net : (more : List Node) × (new.net ≡ old.net ++ more)
  pub lits : (more : List ℕ) × (new.lits ≡ old.lits ++ more)

-- nothing was made
pub record IsSame (old new : Draft) : Type 0 where
  pub net : new.net ≡ old.net
  pub lits : new.lits ≡ old.lits
  pub clauses : new.clauses ≡ old.clauses

-- some literal is of the variable
abbrev pub HasLiteral : List ℕ → ℕ → Type 0
HasLiteral lits v = (k : ℕ) × (k < length lits) × (slice_index lits k / 2 ≡ v)

-- the choices that nodes stand for, in the order of the nodes
unfoldable pub choices_in : List Node → List ℕ
choices_in [] = []
choices_in (Input j ∷ ns) = j ∷ choices_in ns
choices_in (Latch j ∷ ns) = choices_in ns
choices_in (Gate a b ∷ ns) = choices_in ns

-- each of so many choices has one node, in their order
abbrev pub HasChoices : List Node → ℕ → Type 0
HasChoices net n = choices_in net ≡ range_with_len 0 n
