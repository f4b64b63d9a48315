-- Frames and traces: what values of the clauses of all frames say, and which values a trace has.
use Rattle.std.specs.Prelude.{◌≡◌, ◌≢◌, ℕ, ◌*◌, ◌/◌, ◌<◌, ◌≤◌, Bool, false, List, [], ◌∷◌, length, slice_index, slice_index_or, All}
use Rattle.gi_lit.specs.Truth.{true_in, Satisfies}
use Rattle.gi_circuit.specs.Systems.{System, IsCircuit, latch_values, value}
use Rattle.gi_circuit.specs.Frames.{Framed, frame_of}
use Rattle.gi_circuit.specs.Encoding.{IsUnrolled}
use Rattle.gi_unroll.specs.Frames.{Unrolled, unrolled, with_frame, IsUnrolling}
use Rattle.gi_unroll.specs.Laws.{HasOneExtension}
use Rattle.gi_unroll.specs.OneByOne.{with_frames, clauses_with, AreAbove}

-- the values make each literal of a list true or false as is told
abbrev pub HoldList : List Bool → List ℕ → List Bool → Type 0
HoldList values lits told = (j : ℕ) → j < length lits
    → true_in values (slice_index lits j) ≡ slice_index_or told j false

-- the values make the literals of edges what the edges are at a time of the trace
abbrev pub HoldEdges : System → (ℕ → List Bool) → List Bool → ℕ → List Bool → List ℕ → List ℕ
    → Type 0
HoldEdges s inputs free t values lits edges = (j : ℕ) → j < length edges
    → true_in values (slice_index lits j) ≡ value s t (slice_index edges j) inputs free

-- a frame has a literal for each input and each latch, and the values make all its literals what
-- inputs, latches and edges are at a time of the trace
pub record HoldsTrace (s : System) (inputs : ℕ → List Bool) (free values : List Bool) (t : ℕ)
    (g : Framed) : Type 0 where
  pub input_count : length g.inputs ≡ s.parts.inputs
  pub latch_count : length g.latches ≡ s.parts.latches
  pub inputs_hold : HoldList values g.inputs (inputs t)
  pub latches_hold : HoldList values g.latches (latch_values s inputs free t)
  pub outs_hold : HoldEdges s inputs free t values g.outs s.outs
  pub bads_hold : HoldEdges s inputs free t values g.bads s.bads
  pub cons_hold : HoldEdges s inputs free t values g.cons s.cons

-- so it is for frames made one after another, each at its time
abbrev pub AllHold : (ℕ → List Bool) → List Bool → List Bool → Unrolled → List ℕ → Type 0
AllHold inputs free values u [] = Unit {0}
AllHold inputs free values u (n ∷ ns) =
    HoldsTrace u.system inputs free values u.frames.made (frame_of u.system u.frames n)
    × AllHold inputs free values (with_frame u n) ns

-- all frames that were made of a circuit: their clauses say what its traces are
pub record SayTraces (s : System) (ns : List ℕ) : Type 0 where
  -- whatever satisfies the clauses holds some trace
  pub trace : (values : List Bool) → Satisfies values (clauses_with (unrolled s) ns)
      → (inputs : ℕ → List Bool) × (free : List Bool) × AllHold inputs free values (unrolled s) ns
  -- each trace is held by values that satisfy them, whatever the variables are that no frame took
  pub held : (inputs : ℕ → List Bool) (free others : List Bool)
      → (values : List Bool) × Satisfies values (clauses_with (unrolled s) ns)
      × AllHold inputs free values (unrolled s) ns
      × ((v : ℕ) → 1 ≤ v → All (λ l. l / 2 ≢ v) (with_frames (unrolled s) ns).frames.lits
      → true_in values (2 * v) ≡ true_in others (2 * v))

abbrev pub FramesAreTraces : Type 0
FramesAreTraces = (s : System) (ns : List ℕ) → IsCircuit s → AreAbove (unrolled s) ns
    → SayTraces s ns

-- as long as there is no frame, nothing is said: there is no clause, and any values extend any choice
abbrev pub NoFrameSaysNothing : Type 0
NoFrameSaysNothing = (u : Unrolled) (clauses : List (List ℕ)) → IsUnrolling u
    → IsUnrolled u.system clauses u.top u.frames → u.frames.made ≡ 0
    → (clauses ≡ []) × HasOneExtension clauses u.frames
