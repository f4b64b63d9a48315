-- Frames of a circuit one after another.
use Rattle.std.specs.Prelude.{◌≡◌, ℕ, ◌+◌, ◌-◌, ◌*◌, ◌/◌, ◌<◌, ◌≤◌, ◌⊎◌, ◌==◌, if◌then◌else◌, Bool, false, List, [], ◌++◌, length, count_by, sum_by, slice_index, slice_index_or, All}
use Rattle.gi_lit.specs.Truth.{true_in, Satisfies}
use Rattle.gi_circuit.specs.Nodes.{is_gate}
use Rattle.gi_circuit.specs.declared.node.Node.{Node}
use Rattle.gi_circuit.specs.Systems.{System, latch_values}
use Rattle.gi_circuit.specs.Frames.{Frames, no_frames, Framed, frame_of}
use Rattle.gi_circuit.specs.Encoding.{Chooses, TellValues, inputs_at, free_at, IsUnrolled}
use Rattle.gi_unroll.specs.Steps.{HasChoices, HasLiteral}
use Rattle.gi_unroll.specs.declared.frame.Frame.{Frame}

-- a circuit, its frames so far, and the greatest variable that they took
pub record Unrolled : Type 0 where
  pub system : System
  pub frames : Frames
  pub top : ℕ

-- a circuit with no frame yet
abbrev pub unrolled : System → Unrolled
unrolled s = record { system = s; frames = no_frames; top = 0 }

-- how many variables a frame takes at most
abbrev pub most_of : System → ℕ
most_of s = 1 + s.parts.inputs + s.parts.latches + count_by is_gate s.parts.nodes

-- what a frame gives
abbrev pub IsFrame : Frame → ℕ → Framed → Type 0
IsFrame r time f = r ≡ record {
  time = time;
  fresh = f.fresh;
  added = f.added;
  inputs = f.inputs;
  latches = f.latches;
  outs = f.outs;
  bads = f.bads;
  cons = f.cons;
}

-- the greatest variable so far, where a frame took some from n on
abbrev pub top_after : ℕ → ℕ → ℕ → ℕ
top_after top n fresh = if fresh == 0 then top else n + fresh - 1

-- all frames so far, with one more whose variables begin at n
abbrev pub with_frame : Unrolled → ℕ → Unrolled
with_frame u n = record u {
  frames = (frame_of u.system u.frames n).frames;
  top = top_after u.top n (frame_of u.system u.frames n).fresh;
}

-- what frames have: a literal for each node, one node for each choice, and the edges of the next
-- latch states
pub record IsUnrolling (u : Unrolled) : Type 0 where
  pub start : u.frames.made ≡ 0 → (u.frames.net ≡ []) × (u.frames.lits ≡ [])
  pub lits : length u.frames.lits ≤ u.top
  pub choices : HasChoices u.frames.net u.frames.choices
  pub count : 0 < u.frames.made → length u.frames.lits ≡ length u.frames.net + 1
  pub latches : 0 < u.frames.made → length u.frames.latches ≡ length u.system.nexts
  pub within : 0 < u.frames.made → All (λ e. e / 2 ≤ length u.frames.net) u.frames.latches

-- whatever was chosen, wherever the clauses hold each literal of a list has the value told
abbrev pub TellList : List (List ℕ) → Frames → List ℕ → (List Bool → List Bool) → Type 0
TellList clauses f lits told = (chosen values : List Bool) → Satisfies values clauses
    → Chooses f.net f.lits chosen values → (j : ℕ) → j < length lits
    → true_in values (slice_index lits j) ≡ slice_index_or (told chosen) j false

-- wherever the clauses of some frames hold, each literal of the frame has the value that direct
-- evaluation gives at its time
pub record TellsFrameAt (s : System) (clauses : List (List ℕ)) (f : Frames) (t : ℕ)
    (g : Framed) : Type 0 where
  pub inputs : TellList clauses f g.inputs (λ chosen. inputs_at s chosen t)
  pub latches : TellList clauses f g.latches
      (λ chosen. latch_values s (inputs_at s chosen) (free_at s chosen) t)
  pub outs : TellValues s clauses f t g.outs s.outs
  pub bads : TellValues s clauses f t g.bads s.bads
  pub cons : TellValues s clauses f t g.cons s.cons

-- so it is with the newest frame under the clauses of all frames with it
abbrev pub TellsFrame : System → List (List ℕ) → ℕ → Framed → Type 0
TellsFrame s clauses t g = TellsFrameAt s clauses g.frames t g

-- where all clauses before encode the frames before, all with those of the new frame encode all
-- frames, and its literals have their values
abbrev pub KeepsEncoding : Unrolled → ℕ → Type 0
KeepsEncoding u n = (earlier : List (List ℕ)) → IsUnrolled u.system earlier u.top u.frames
    → IsUnrolled u.system (earlier ++ (frame_of u.system u.frames n).added) (with_frame u n).top
    (with_frame u n).frames × TellsFrame u.system (earlier ++ (frame_of u.system u.frames n).added)
    u.frames.made (frame_of u.system u.frames n)

-- each variable that the new frame takes is that of a node's literal, and the nodes and literals
-- there were stay
pub record KeepsLiterals (u : Unrolled) (n : ℕ) : Type 0 where
  pub taken : (v : ℕ) → n ≤ v → v < n + (frame_of u.system u.frames n).fresh
      → HasLiteral (frame_of u.system u.frames n).frames.lits v
  pub stay : (more : List ℕ) × ((frame_of u.system u.frames n).frames.lits ≡ u.frames.lits ++ more)
  pub nodes : (more : List Node)
      × ((frame_of u.system u.frames n).frames.net ≡ u.frames.net ++ more)

-- a variable that the new frame takes, or that a literal of the frames before has
abbrev pub IsNamed : Unrolled → ℕ → ℕ → Type 0
IsNamed u n v = ((n ≤ v) × (v < n + (frame_of u.system u.frames n).fresh))
    ⊎ HasLiteral u.frames.lits v

-- each literal of the new frame is of such a variable, and so is each that a node has
pub record NamesVariables (u : Unrolled) (n : ℕ) : Type 0 where
  pub nodes : All (λ l. IsNamed u n (l / 2)) (frame_of u.system u.frames n).frames.lits
  pub clauses : All (All (λ l. IsNamed u n (l / 2))) (frame_of u.system u.frames n).added
  pub inputs : All (λ l. IsNamed u n (l / 2)) (frame_of u.system u.frames n).inputs
  pub latches : All (λ l. IsNamed u n (l / 2)) (frame_of u.system u.frames n).latches
  pub outs : All (λ l. IsNamed u n (l / 2)) (frame_of u.system u.frames n).outs
  pub bads : All (λ l. IsNamed u n (l / 2)) (frame_of u.system u.frames n).bads
  pub cons : All (λ l. IsNamed u n (l / 2)) (frame_of u.system u.frames n).cons

-- a clause at most for the constant, and three with seven literals for each gate of the circuit
pub record IsShort (s : System) (added : List (List ℕ)) : Type 0 where
  pub clauses : length added ≤ 1 + 3 * count_by is_gate s.parts.nodes
  pub literals : sum_by (λ (c : List ℕ). length c) added ≤ 1 + 7 * count_by is_gate s.parts.nodes
