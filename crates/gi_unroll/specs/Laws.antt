-- What frames one after another encode.
use Rattle.std.specs.Prelude.{◌≡◌, ℕ, ◌+◌, ◌*◌, ◌/◌, ◌<◌, ◌≤◌, ◌≢◌, Bool, List, ◌++◌, length, All}
use Rattle.gi_lit.specs.Truth.{true_in, Satisfies}
use Rattle.gi_circuit.specs.Systems.{System, IsCircuit}
use Rattle.gi_circuit.specs.Frames.{Frames, Framed, frame_of}
use Rattle.gi_circuit.specs.declared.node.Node.{Node}
use Rattle.gi_circuit.specs.Encoding.{Chooses, IsUnrolled}
use Rattle.gi_unroll.specs.Frames.{Unrolled, most_of, with_frame, IsUnrolling, KeepsEncoding, KeepsLiterals, NamesVariables, IsShort, TellsFrameAt}
use Rattle.gi_unroll.specs.Choices.{choice_of}
use Rattle.gi_unroll.specs.Steps.{HasLiteral}

-- every choice of inputs and free latches has exactly one extension to the variables of the nodes
-- that satisfies the clauses
pub record HasOneExtension (clauses : List (List ℕ)) (f : Frames) : Type 0 where
  -- there is one, whatever the other variables are
  pub exists : (chosen others : List Bool)
      → (values : List Bool) × Satisfies values clauses × Chooses f.net f.lits chosen values
      × ((v : ℕ) → 1 ≤ v → All (λ l. l / 2 ≢ v) f.lits
      → true_in values (2 * v) ≡ true_in others (2 * v))
  -- any two agree on each variable of a node
  pub one : (chosen values others : List Bool) → Satisfies values clauses → Satisfies others clauses
      → Chooses f.net f.lits chosen values → Chooses f.net f.lits chosen others → (v : ℕ)
      → HasLiteral f.lits v → true_in values (2 * v) ≡ true_in others (2 * v)

-- so it is for the clauses of all frames so far, from the first on
abbrev pub ExtensionsAreOne : Type 0
ExtensionsAreOne = (s : System) (clauses : List (List ℕ)) (top : ℕ) (f : Frames)
    → IsUnrolled s clauses top f → 0 < f.made → HasOneExtension clauses f

-- what the next frame keeps, where its variables begin above those that the frames before took
pub record FrameKeeps (u : Unrolled) (n : ℕ) : Type 0 where
  pub kept : IsUnrolling (with_frame u n)
  pub encoding : KeepsEncoding u n
  pub literals : KeepsLiterals u n
  pub names : NamesVariables u n
  pub short : IsShort u.system (frame_of u.system u.frames n).added
  pub fresh : (frame_of u.system u.frames n).fresh ≤ most_of u.system
  pub made : (with_frame u n).frames.made ≡ u.frames.made + 1

-- so it is for each circuit and all that frames have
abbrev pub FramesKeep : Type 0
FramesKeep = (u : Unrolled) (n : ℕ) → IsCircuit u.system → IsUnrolling u → u.top < n
    → FrameKeeps u n

-- frames with perhaps more behind them: nodes and literals were only put behind those there were
pub record IsContinued (old new : Frames) : Type 0 where
  pub count : length old.lits ≡ length old.net + 1
  pub net : (more : List Node) × (new.net ≡ old.net ++ more)
  pub lits : (more : List ℕ) × (new.lits ≡ old.lits ++ more)

-- the literals of a frame keep their values under the clauses of all frames so far, with those of
-- later frames too
abbrev pub EarlierFramesStay : Type 0
EarlierFramesStay = (s : System) (clauses more : List (List ℕ)) (old new : Frames) (t : ℕ)
    (g : Framed) → IsContinued old new → TellsFrameAt s clauses old t g
    → TellsFrameAt s (clauses ++ more) new t g

-- a frame that was just made has its values, and the next frame continues all frames so far
abbrev pub FramesContinue : Type 0
FramesContinue = (u : Unrolled) (n : ℕ) → IsCircuit u.system → IsUnrolling u → 0 < u.frames.made
    → u.top < n → IsContinued u.frames (with_frame u n).frames

-- values choose: of all values a choice of inputs and free latches can be read
abbrev pub ValuesChoose : Type 0
ValuesChoose = (u : Unrolled) → IsUnrolling u → (values : List Bool)
    → Chooses u.frames.net u.frames.lits (choice_of values u.frames.net u.frames.lits) values
