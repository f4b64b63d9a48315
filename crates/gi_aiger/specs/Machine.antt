-- The machine over bytes that the code is. What files say is in `Files` and `Relation`, and the reader's contract says that this machine reads it.
use Rattle.std.specs.Prelude.{◌≡◌, ℕ, ◌+◌, ◌<◌, ◌≤◌, nat_lt, Bool, true, ◌==◌, ◌&&◌, not, List, [], ◌∷◌, ◌++◌, length, Option, Some, None, Result, Ok, Err, if◌then◌else◌}
use Rattle.std.specs.Str.{bytes_eq}
use Rattle.std.specs.Char.{is_ascii_digit}
use Rattle.std.specs.List.{fold}
use Rattle.std.specs.Global.{Global}
use Rattle.gi_aiger.specs.declared.aig.Symbol.{Symbol}
use Rattle.gi_aiger.specs.declared.fault.AigCode.{AigCode}
use Rattle.gi_aiger.specs.declared.fault.AigCode.TheVariants.{End}
use Rattle.gi_aiger.specs.declared.head.Form.{Form}
use Rattle.gi_aiger.specs.declared.head.Form.TheVariants.{Ascii, Binary}
use Rattle.gi_aiger.specs.declared.head.Head.{Head}
use Rattle.gi_aiger.specs.declared.row.Section.{Section}
use Rattle.gi_aiger.specs.declared.taken.Taken.{Taken}
use Rattle.gi_aiger.specs.declared.phase.Phase.{Phase}
use Rattle.gi_aiger.specs.declared.phase.Phase.TheVariants.{Heading, Rows, Gates, Naming, Comment, Failed}
use Rattle.gi_aiger.specs.declared.machine.Machine.{Machine}
use Rattle.gi_aiger.specs.Header.{header_of, is_within}
use Rattle.gi_aiger.specs.Taking.{IsBounded, nothing, add_line}
use Rattle.gi_aiger.specs.Sections.{first_left, left_in, behind, sections_of}
use Rattle.gi_aiger.specs.Groups.{difference_of, greater_at, lesser_at}
use Rattle.gi_aiger.specs.Named.{add_symbol}
use Rattle.gi_aiger.specs.Files.{Told, gates_line, stopped, gate_stopped, whole, own_gate, with_gate, begin}
use Rattle.gi_aiger.specs.Limits.{most_items}

-- a header of nothing
abbrev pub no_head : Head
no_head = record { form = Ascii; max = 0; inputs = 0; latches = 0; outs = 0; gates = 0; bads = 0; cons = 0; justice = 0; fair = 0 }

abbrev pub start : Global → Machine
start alloc = record { alloc = alloc; line = 1; phase = Heading; head = no_head; word = []; taken = nothing; symbols = []; comment = [] }

-- where lines of a section or binary gates are read, one at least is to come
abbrev pub InPhase : Phase → Head → Taken → Type 0
InPhase Heading h t = Unit {0}
InPhase (Rows section) h t = 0 < left_in h t section
InPhase (Gates greater) h t = length t.gates < h.gates
InPhase Naming h t = Unit {0}
InPhase Comment h t = Unit {0}
InPhase (Failed gate c) h t = Unit {0}

-- the header's numbers, the sum of the justice sizes and the lists are within their limits, and what stands has a part for each line behind the header
pub record IsFit (s : Machine) : Type 0 where
  pub head : is_within s.head ≡ true
  pub total : s.taken.total ≤ most_items
  pub lists : IsBounded s.taken
  pub phase : InPhase s.phase s.head s.taken
  pub lines : s.line ≤ gates_line s.taken + length s.taken.gates + length s.symbols

abbrev pub failed : Machine → ℕ → AigCode → Machine
failed s gate code = record s { phase = Failed gate code; word = [] }

abbrev pub new_line : Machine → Machine
new_line s = record s { line = s.line + 1; word = [] }

-- behind the gates before this one, if more are to come
abbrev pub gates_or_names : Head → Taken → Phase
gates_or_names h t = if nat_lt (length t.gates) h.gates then Gates None else Naming

abbrev pub phase_after : Form → Head → Taken → Phase
phase_after Ascii h t = Naming
phase_after Binary h t = gates_or_names h t

abbrev pub phase_of : Head → Taken → Option Section → Phase
phase_of h t (Some s) = Rows s
phase_of h t None = phase_after h.form h t

-- the phase where lines of these sections may be to come
abbrev pub phase_from : Head → Taken → List Section → Phase
phase_from h t ss = phase_of h t (first_left h t ss)

abbrev pub head_ends : Result Head AigCode → Machine → Machine
head_ends (Ok h) s = record s { line = 2; phase = phase_from h (begin h) (sections_of h.form); head = h; word = []; taken = begin h }
head_ends (Err c) s = failed s 0 c

abbrev pub row_ends : Section → Result Taken AigCode → Machine → Machine
row_ends section (Ok t) s = record s { line = s.line + 1; phase = phase_from s.head t (section ∷ behind s.head.form section); word = []; taken = t }
row_ends section (Err c) s = record s { phase = Failed 0 c; word = []; taken = record s.taken { marks = [] } }

abbrev pub symbol_ends : Result (List Symbol) AigCode → Machine → Machine
symbol_ends (Ok more) s = record s { line = s.line + 1; word = []; symbols = more }
symbol_ends (Err c) s = failed s 0 c

-- the line `c`, so far
abbrev pub is_c : List ℕ → Bool
is_c word = bytes_eq word (99 ∷ [])

abbrev pub comment_begins : Machine → List ℕ → Machine
comment_begins s bytes = record s { phase = Comment; word = []; comment = bytes }

abbrev pub line_by_phase : Phase → Machine → Machine
line_by_phase Heading s = head_ends (header_of s.word) s
line_by_phase (Rows section) s = row_ends section (add_line s.head s.taken section s.word) s
line_by_phase (Gates greater) s = s
line_by_phase Naming s = if is_c s.word then comment_begins s [] else symbol_ends (add_symbol s.head s.symbols s.word) s
line_by_phase Comment s = s
line_by_phase (Failed gate c) s = s

unfoldable pub line_ends : Machine → Machine
line_ends s = line_by_phase s.phase s

abbrev pub byte_in_line : Machine → ℕ → Machine
byte_in_line s b = if b == 10 then line_ends s else record s { word = s.word ++ b ∷ [] }

-- a `c` that no digit and no LF follows
abbrev pub is_lenient : List ℕ → ℕ → Bool
is_lenient word b = is_c word && not (is_ascii_digit b) && not (b == 10)

abbrev pub byte_of_name : Machine → ℕ → Machine
byte_of_name s b = if is_lenient s.word b then comment_begins s (b ∷ []) else byte_in_line s b

-- a gate is at fault
abbrev pub gate_fails : Machine → AigCode → Machine
gate_fails s c = failed s (length s.taken.gates + 1) c

abbrev pub greater_ends : Result ℕ AigCode → Machine → Machine
greater_ends (Ok greater) s = record s { phase = Gates (Some greater); word = [] }
greater_ends (Err c) s = gate_fails s c

-- a gate is whole
abbrev pub gate_ends : Machine → Taken → Machine
gate_ends s t = record s { phase = gates_or_names s.head t; word = []; taken = t }

abbrev pub lesser_ends : Result ℕ AigCode → Machine → ℕ → Machine
lesser_ends (Ok lesser) s greater = gate_ends s (with_gate s.taken (own_gate s.head s.taken) greater lesser)
lesser_ends (Err c) s greater = gate_fails s c

-- a difference of these groups is whole
abbrev pub difference_ends : Option ℕ → List ℕ → Machine → Machine
difference_ends None groups s = greater_ends (greater_at (own_gate s.head s.taken) (difference_of groups)) s
difference_ends (Some greater) groups s = lesser_ends (lesser_at greater (difference_of groups)) s greater

abbrev pub byte_of_gate : Option ℕ → Machine → ℕ → Machine
byte_of_gate greater s b = if nat_lt b 128 then difference_ends greater (s.word ++ b ∷ []) s else record s { word = s.word ++ b ∷ [] }

abbrev pub byte_by_phase : Phase → Machine → ℕ → Machine
byte_by_phase Heading s b = byte_in_line s b
byte_by_phase (Rows section) s b = byte_in_line s b
byte_by_phase (Gates greater) s b = byte_of_gate greater s b
byte_by_phase Naming s b = byte_of_name s b
byte_by_phase Comment s b = record s { comment = s.comment ++ b ∷ [] }
byte_by_phase (Failed gate c) s b = s

unfoldable pub take_byte : Machine → ℕ → Machine
take_byte s b = byte_by_phase s.phase s b

-- the input has ended
abbrev pub last_line : Machine → Machine
last_line s = if length s.word == 0 then s else line_ends s

abbrev pub answer_of : Phase → Machine → Told
answer_of Heading s = stopped s.taken s.line 0 End
answer_of (Rows section) s = stopped s.taken s.line 0 End
answer_of (Gates greater) s = gate_stopped s.taken s.line End
answer_of Naming s = whole s.head s.taken s.symbols None
answer_of Comment s = whole s.head s.taken s.symbols (Some s.comment)
answer_of (Failed gate c) s = stopped s.taken s.line gate c

abbrev pub answer_now : Machine → Told
answer_now s = answer_of s.phase s

unfoldable pub answer : Machine → Told
answer s = answer_now (last_line s)

unfoldable pub run : Machine → List ℕ → Machine
run s bytes = fold take_byte s bytes
