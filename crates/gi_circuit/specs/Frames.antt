-- Frames: a circuit's gates at one time after another, as clauses. All frames share one hashed circuit whose inputs are the choices that the frames
-- made: each frame's inputs, and the latches that are free at first.
use Rattle.std.specs.Prelude.{ℕ, zero, suc, ◌+◌, ◌-◌, ◌*◌, ◌/◌, ◌%◌, ◌==◌, if◌then◌else◌, List, [], ◌∷◌, ◌++◌, length, map, fold, slice_index}
use Rattle.gi_aiger.specs.declared.aig.Reset.{Reset}
use Rattle.gi_aiger.specs.declared.aig.Reset.TheVariants.{Zero, One, Free}
use Rattle.gi_lit.specs.Literals.{opposite}
use Rattle.gi_circuit.specs.Nodes.{Made, pair_of, and_in}
use Rattle.gi_circuit.specs.Systems.{System}
use Rattle.gi_circuit.specs.declared.node.Node.{Node}
use Rattle.gi_circuit.specs.declared.node.Node.TheVariants.{Input, Latch, Gate}

-- the literal of an edge, where node k has the literal at place k; that of node 0 is the negative one of the variable that is true
abbrev pub lit_of : List ℕ → ℕ → ℕ
lit_of lits e = if e % 2 == 0 then slice_index lits (e / 2) else opposite (slice_index lits (e / 2))

-- an edge of the circuit in the shared one, where node k stands for the edge at place k
abbrev pub edge_of : List ℕ → ℕ → ℕ
edge_of edges e = if e % 2 == 0 then slice_index edges (e / 2) else opposite (slice_index edges (e / 2))

-- x is a and b
abbrev pub gate_clauses : ℕ → ℕ → ℕ → List (List ℕ)
gate_clauses x a b = (opposite x ∷ a ∷ []) ∷ (opposite x ∷ b ∷ []) ∷ (x ∷ opposite a ∷ opposite b ∷ []) ∷ []

-- the shared circuit with its choices and the literals of its nodes, the next variable, the clauses, and the edges of the circuit's nodes so far
pub record Draft : Type 0 where
  pub net : List Node
  pub choices : ℕ
  pub lits : List ℕ
  pub next : ℕ
  pub clauses : List (List ℕ)
  pub edges : List ℕ

-- a choice more, which takes a variable
abbrev pub with_choice : Draft → Draft
with_choice d = record d { net = d.net ++ Input d.choices ∷ []; choices = d.choices + 1; lits = d.lits ++ 2 * d.next ∷ []; next = d.next + 1 }

-- an edge that is there, or a gate that takes a variable
abbrev pub with_made : Draft → ℕ → ℕ → Made → Draft
with_made d a b m = if length m.nodes == length d.net then record d { edges = d.edges ++ m.edge ∷ [] } else record d {
  net = m.nodes;
  lits = d.lits ++ 2 * d.next ∷ [];
  next = d.next + 1;
  clauses = d.clauses ++ gate_clauses (2 * d.next) (lit_of d.lits (pair_of a b).low) (lit_of d.lits (pair_of a b).high);
  edges = d.edges ++ m.edge ∷ [];
}

-- the conjunction of two edges of the shared circuit
abbrev pub with_gate : Draft → ℕ → ℕ → Draft
with_gate d a b = with_made d a b (and_in d.net a b)

-- one node of the circuit, over the edges of the inputs and of the latches
abbrev pub with_node : List ℕ → List ℕ → Draft → Node → Draft
with_node inputs latches d (Input j) = record d { edges = d.edges ++ slice_index inputs j ∷ [] }
with_node inputs latches d (Latch j) = record d { edges = d.edges ++ slice_index latches j ∷ [] }
with_node inputs latches d (Gate a b) = with_gate d (edge_of d.edges a) (edge_of d.edges b)

-- what all frames so far made: the shared circuit with its choices and literals, the edges of the next latch states, and how many frames
pub record Frames : Type 0 where
  pub net : List Node
  pub choices : ℕ
  pub lits : List ℕ
  pub latches : List ℕ
  pub made : ℕ

abbrev pub no_frames : Frames
no_frames = record { net = []; choices = 0; lits = []; latches = []; made = 0 }

-- a draft, and edges that were made along
pub record Along : Type 0 where
  pub draft : Draft
  pub edges : List ℕ

-- a choice, and its edge
abbrev pub choice_along : Along → Along
choice_along d = record { draft = with_choice d.draft; edges = d.edges ++ 2 * (length d.draft.net + 1) ∷ [] }

-- the inputs of a frame are choices
abbrev pub input_along : ℕ → Along → Along
input_along zero d = d
input_along (suc n) d = choice_along (input_along n d)

-- a latch at first: a constant, or a choice
abbrev pub reset_along : Along → Reset → Along
reset_along d Zero = record d { edges = d.edges ++ 0 ∷ [] }
reset_along d One = record d { edges = d.edges ++ 1 ∷ [] }
reset_along d Free = choice_along d

-- frame 0 begins with a variable that is true
abbrev pub draft_of : Frames → ℕ → Draft
draft_of f n = if f.made == 0 then record { net = []; choices = f.choices; lits = (2 * n + 1) ∷ []; next = n + 1; clauses = (2 * n ∷ []) ∷ []; edges = 0 ∷ [] }
    else record { net = f.net; choices = f.choices; lits = f.lits; next = n; clauses = []; edges = 0 ∷ [] }

-- the latches: at first their resets, and later what the frame before made of their next states
abbrev pub latches_of : System → Frames → Along → Along
latches_of s f d = if f.made == 0 then fold reset_along d s.resets else record d { edges = f.latches }

-- a frame: how many variables it took, its clauses, and its literals; and all frames with it
pub record Framed : Type 0 where
  pub frames : Frames
  pub fresh : ℕ
  pub added : List (List ℕ)
  pub inputs : List ℕ
  pub latches : List ℕ
  pub outs : List ℕ
  pub bads : List ℕ
  pub cons : List ℕ

abbrev pub framed : System → Frames → ℕ → List ℕ → List ℕ → Draft → Framed
framed s f n ins ls d = record {
  frames = record { net = d.net; choices = d.choices; lits = d.lits; latches = map (edge_of d.edges) s.nexts; made = suc f.made };
  fresh = d.next - n;
  added = d.clauses;
  inputs = map (lit_of d.lits) ins;
  latches = map (lit_of d.lits) ls;
  outs = map (lit_of d.lits) (map (edge_of d.edges) s.outs);
  bads = map (lit_of d.lits) (map (edge_of d.edges) s.bads);
  cons = map (lit_of d.lits) (map (edge_of d.edges) s.cons);
}

abbrev pub inputs_along : System → Frames → ℕ → Along
inputs_along s f n = input_along s.parts.inputs (record { draft = draft_of f n; edges = [] })

abbrev pub latches_along : System → Frames → ℕ → Along
latches_along s f n = latches_of s f (record (inputs_along s f n) { edges = [] })

-- the draft behind all nodes of the circuit
abbrev pub rebuilt_draft : System → Frames → ℕ → Draft
rebuilt_draft s f n = fold (with_node (inputs_along s f n).edges (latches_along s f n).edges) (latches_along s f n).draft s.parts.nodes

-- the next frame, whose variables begin at n
unfoldable pub frame_of : System → Frames → ℕ → Framed
frame_of s f n = framed s f n (inputs_along s f n).edges (latches_along s f n).edges (rebuilt_draft s f n)
