-- Frames one after another, from the first on, and what all of them encode.
use Rattle.std.specs.Prelude.{◌≡◌, ℕ, ◌<◌, List, [], ◌∷◌, ◌++◌}
use Rattle.gi_circuit.specs.Systems.{System, IsCircuit}
use Rattle.gi_circuit.specs.Frames.{Frames, frame_of}
use Rattle.gi_circuit.specs.Encoding.{IsUnrolled}
use Rattle.gi_unroll.specs.Frames.{Unrolled, unrolled, with_frame, IsUnrolling, TellsFrameAt}

-- a frame more for each of these numbers, at which its variables begin
unfoldable pub with_frames : Unrolled → List ℕ → Unrolled
with_frames u [] = u
with_frames u (n ∷ ns) = with_frames (with_frame u n) ns

-- the clauses of all of them
unfoldable pub clauses_with : Unrolled → List ℕ → List (List ℕ)
clauses_with u [] = []
clauses_with u (n ∷ ns) = (frame_of u.system u.frames n).added ++ clauses_with (with_frame u n) ns

-- each begins above the variables that frames took before it
abbrev pub AreAbove : Unrolled → List ℕ → Type 0
AreAbove u [] = Unit {0}
AreAbove u (n ∷ ns) = (u.top < n) × AreAbove (with_frame u n) ns

-- wherever these clauses hold, the literals of each have the values that direct evaluation gives at
-- its time
abbrev pub AllTell : List (List ℕ) → Frames → Unrolled → List ℕ → Type 0
AllTell clauses all u [] = Unit {0}
AllTell clauses all u (n ∷ ns) =
    TellsFrameAt u.system clauses all u.frames.made (frame_of u.system u.frames n)
    × AllTell clauses all (with_frame u n) ns

-- all frames that were made of a circuit, under the clauses of all of them
pub record AreUnrolled (s : System) (ns : List ℕ) : Type 0 where
  pub kept : IsUnrolling (with_frames (unrolled s) ns)
  pub encoded : IsUnrolled s (clauses_with (unrolled s) ns) (with_frames (unrolled s) ns).top
      (with_frames (unrolled s) ns).frames
  pub tell : AllTell (clauses_with (unrolled s) ns) (with_frames (unrolled s) ns).frames
      (unrolled s) ns

abbrev pub FramesOneByOne : Type 0
FramesOneByOne = (s : System) (ns : List ℕ) → IsCircuit s → AreAbove (unrolled s) ns
    → AreUnrolled s ns

-- frames at these numbers and at one more: that one is made last, its clauses stand behind those of
-- the others, and it begins above them if it begins above all that they took
pub record IsOneMore (u : Unrolled) (ns : List ℕ) (n : ℕ) : Type 0 where
  pub frames : with_frames u (ns ++ n ∷ []) ≡ with_frame (with_frames u ns) n
  pub system : (with_frames u ns).system ≡ u.system
  pub clauses : clauses_with u (ns ++ n ∷ []) ≡ clauses_with u ns
      ++ (frame_of (with_frames u ns).system (with_frames u ns).frames n).added
  pub above : AreAbove u ns → (with_frames u ns).top < n → AreAbove u (ns ++ n ∷ [])

abbrev pub FramesGrow : Type 0
FramesGrow = (u : Unrolled) (ns : List ℕ) (n : ℕ) → IsOneMore u ns n
