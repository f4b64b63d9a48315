-- What holds of the format.
use Rattle.std.specs.Prelude.{◌≡◌, ◌≢◌, ◌↔◌, Contains, ℕ, ◌+◌, ◌<◌, ◌==◌, List, [], ◌∷◌, ◌++◌, length, map, filter, take, Result, Ok, Err}
use Rattle.gi_aiger.specs.declared.aig.Aig.{Aig}
use Rattle.gi_aiger.specs.declared.fault.AigCode.TheVariants.{End}
use Rattle.gi_aiger.specs.declared.fault.AigFault.{AigFault}
use Rattle.std.specs.List.{flat_map}
use Rattle.gi_aiger.specs.declared.mark.Mark.TheVariants.{Used}
use Rattle.gi_aiger.specs.Files.{read_file}
use Rattle.gi_aiger.specs.declared.aig.AndGate.{AndGate}
use Rattle.gi_aiger.specs.declared.row.Row.{Row}
use Rattle.gi_aiger.specs.Rows.{uses_of, defined_variables, IsClosed}
use Rattle.gi_aiger.specs.Marks.{mark_at, missing, marks_of}
use Rattle.gi_aiger.specs.Levels.{HasLevels, ClosesCycle}
use Rattle.gi_aiger.specs.Answers.{Answer, read_aig}
use Rattle.gi_aiger.specs.Lines.{lines_of, bare, text_of}
use Rattle.gi_aiger.specs.Deltas.{AreGates}
use Rattle.gi_aiger.specs.Relation.{IsAscii, IsBinary, IsAig}

-- one gate closes the first cycle
abbrev pub CycleIsOne : Type 0
CycleIsOne = (gates : List AndGate) (j k : ℕ) → ClosesCycle gates j → ClosesCycle gates k → j ≡ k

-- and no gates behind it help
abbrev pub CyclesStay : Type 0
CyclesStay = (gates more : List AndGate) (k : ℕ) → ClosesCycle gates k → HasLevels (take (k + 1) gates ++ more) → ⊥

-- where more variables are used and undefined than lines behind them define, some stay undefined
abbrev pub UndefinedIsHopeless : Type 0
UndefinedIsHopeless = (before more : List Row) → length (defined_variables more) < missing (marks_of before []) → IsClosed (before ++ more) → ⊥

-- a variable is marked as used, and so counted as used and undefined, exactly where the lines so far use it and none of them defines it
abbrev pub UsedIsUndefined : Type 0
UsedIsUndefined = (lines : List Row) (v : ℕ) → (mark_at (marks_of lines []) v ≡ Used) ↔ (Contains (flat_map uses_of lines) v × (Contains (defined_variables lines) v → ⊥))

-- a fault of whole lines, but for an early end, is the fault however the input goes on behind them; cycles of gates are left aside
abbrev pub FaultsStand : Type 0
FaultsStand = (bytes more : List ℕ) (f : AigFault) → (read_file (bytes ++ 10 ∷ [])).read ≡ Err f → f.code ≢ End → (read_file ((bytes ++ 10 ∷ []) ++ more)).read ≡ Err f

-- and so is a binary gate's, behind the byte that shows it
abbrev pub GateFaultsStand : Type 0
GateFaultsStand = (bytes more : List ℕ) (f : AigFault) → (read_file bytes).read ≡ Err f → f.code ≢ End → f.gate ≢ 0 → (read_file (bytes ++ more)).read ≡ Err f

-- whole lines of which a fault is answered, but for an early end: it is the answer however the input goes on behind them
abbrev pub LinesLast : Type 0
LinesLast = (bytes more : List ℕ) (f : AigFault) → Answer (read_file (bytes ++ 10 ∷ [])) (Err f) → f.code ≢ End → Answer (read_file ((bytes ++ 10 ∷ []) ++ more)) (Err f)

-- and so a binary gate's, behind the byte that shows it
abbrev pub GatesLast : Type 0
GatesLast = (bytes more : List ℕ) (f : AigFault) → Answer (read_file bytes) (Err f) → f.code ≢ End → f.gate ≢ 0 → Answer (read_file (bytes ++ more)) (Err f)

-- no value has bytes that begin with these
abbrev pub NoneBegins : List ℕ → Type 0
NoneBegins front = (v : Aig) (more : List ℕ) → IsAig v (front ++ more) → ⊥

-- whole lines of which a fault is answered, but for an early end, have no continuation to a file
abbrev pub LinesHelpless : Type 0
LinesHelpless = (bytes : List ℕ) (f : AigFault) → Answer (read_file (bytes ++ 10 ∷ [])) (Err f) → f.code ≢ End → NoneBegins (bytes ++ 10 ∷ [])

-- and so bytes of which a binary gate's fault is answered
abbrev pub GatesHelpless : Type 0
GatesHelpless = (bytes : List ℕ) (f : AigFault) → Answer (read_file bytes) (Err f) → f.code ≢ End → f.gate ≢ 0 → NoneBegins bytes

-- a fault that bytes show is shown first by one of their bytes: with it the fault is answered, and no value has bytes that begin with those up to it
pub record IsShown (bytes : List ℕ) (f : AigFault) : Type 0 where
  pub before : List ℕ
  pub last : ℕ
  pub rest : List ℕ
  pub are : bytes ≡ (before ++ last ∷ []) ++ rest
  pub not_yet : Answer (read_file before) (Err f) → ⊥
  pub answer : Answer (read_file (before ++ last ∷ [])) (Err f)
  pub helpless : NoneBegins (before ++ last ∷ [])

-- so it is with the fault of a binary gate: the bytes up to the end of its difference show it
abbrev pub GateFaultsAreShown : Type 0
GateFaultsAreShown = (bytes : List ℕ) (f : AigFault) → Answer (read_file bytes) (Err f) → f.code ≢ End → f.gate ≢ 0 → IsShown bytes f

-- the first lines of bytes, each with its LF
abbrev pub first_lines : ℕ → List ℕ → List ℕ
first_lines n bytes = text_of (map bare (take n (lines_of bytes)))

-- where a fault is answered, but for an early end, the lines up to the one that it names begin no file of the ASCII form
abbrev pub AsciiHelpless : Type 0
AsciiHelpless = (bytes : List ℕ) (f : AigFault) → Answer (read_file bytes) (Err f) → f.code ≢ End → (v : Aig) (more : List ℕ) → IsAscii v (first_lines f.line bytes ++ more) → ⊥

-- how many of these bytes are an LF
abbrev pub line_feeds : List ℕ → ℕ
line_feeds bytes = length (filter (λ b. b == 10) bytes)

-- and none of the binary form; there an LF among the bytes of gates ends no line
abbrev pub BinaryHelpless : Type 0
BinaryHelpless = (bytes gates : List ℕ) (f : AigFault) → Answer (read_file bytes) (Err f) → f.code ≢ End → f.gate ≡ 0 → AreGates (read_file bytes).gates gates → (v : Aig) (more : List ℕ) → IsBinary v (first_lines (f.line + line_feeds gates) bytes ++ more) → ⊥

-- bytes have exactly one answer, that of the function, and it is a value exactly where they say it
pub record OneAnswer : Type 0 where
  pub only : (bytes : List ℕ) (r s : Result Aig AigFault) → Answer (read_file bytes) r → Answer (read_file bytes) s → r ≡ s
  pub read : (bytes : List ℕ) (r : Result Aig AigFault) → Answer (read_file bytes) r ↔ (r ≡ read_aig bytes)
  pub value : (v : Aig) (bytes : List ℕ) → IsAig v bytes ↔ (read_aig bytes ≡ Ok v)
  pub said : (v : Aig) (bytes : List ℕ) → Answer (read_file bytes) (Ok v) → IsAig v bytes
  pub answered : (v : Aig) (bytes : List ℕ) → IsAig v bytes → Answer (read_file bytes) (Ok v)
