-- The machine over bytes that the code is. The formats are in `Files` and `Relation`, and the
-- readers' contracts say that this machine reads them.
use Rattle.std.specs.Prelude.{◌≡◌, ℕ, zero, suc, ◌+◌, ◌-◌, ◌^◌, ◌<◌, ◌⊎◌, min, nat_le, nat_lt, ℤ, pos, negsuc, Bool, true, false, ◌==◌, ◌&&◌, ◌||◌, not, List, [], ◌∷◌, ◌++◌, length, Option, Some, None, Result, Ok, Err, if◌then◌else◌}
use Rattle.std.specs.Str.{bytes_eq}
use Rattle.std.specs.List.{fold}
use Rattle.std.specs.Global.{Global}
use Rattle.gi_text.specs.Words.{is_white}
use Rattle.gi_dimacs.specs.declared.fault.CnfCode.{CnfCode}
use Rattle.gi_dimacs.specs.declared.fault.CnfCode.TheVariants.{Header, Word, Limit, Unterminated}
use Rattle.gi_dimacs.specs.declared.fault.CnfFault.{CnfFault}
use Rattle.gi_dimacs.specs.declared.content.Format.{Format}
use Rattle.gi_dimacs.specs.declared.content.Format.TheVariants as formats
use Rattle.gi_dimacs.specs.declared.words.Taken.{Taken}
use Rattle.gi_dimacs.specs.declared.head.Head.{Head}
use Rattle.gi_dimacs.specs.declared.head.Head.TheVariants as heads
use Rattle.gi_dimacs.specs.declared.machine.Phase.{Phase}
use Rattle.gi_dimacs.specs.declared.machine.Phase.TheVariants.{Before, Body, Ask, Asked, Ended, Failed}
use Rattle.gi_dimacs.specs.declared.machine.Spot.{Spot}
use Rattle.gi_dimacs.specs.declared.machine.Spot.TheVariants.{Start, Comment, First, Later}
use Rattle.gi_dimacs.specs.declared.machine.Machine.{Machine}
use Rattle.gi_dimacs.specs.Content.{format_of, File}
use Rattle.gi_dimacs.specs.Files.{begin, asked, with_assumption, count_at, number_in, add_word, is_end, is_ask, whole}
use Rattle.gi_lit.specs.Literals.{max_var}
use Rattle.gi_dimacs.specs.Limits.{most_assumptions}

abbrev pub start : Global → Format → Machine
start alloc format = record {
  alloc = alloc;
  line = 1;
  phase = Before heads.Nothing;
  spot = Start;
  word = [];
  taken = begin format 0;
}

abbrev pub vars_head : Option ℕ → Head
vars_head (Some v) = heads.Vars (min v (max_var + 1))
vars_head None = heads.Bad

abbrev pub whole_head : ℕ → Option ℕ → Head
whole_head v (Some c) = heads.Whole v (nat_le c 4294967295)
whole_head v None = heads.Bad

-- the word behind `p`
abbrev pub named_head : Format → List ℕ → Head
named_head formats.Cnf w = if bytes_eq w (99 ∷ 110 ∷ 102 ∷ []) then heads.Cnf else heads.Bad
named_head formats.Icnf w = if bytes_eq w (105 ∷ 110 ∷ 99 ∷ 99 ∷ 110 ∷ 102 ∷ [])
    then heads.Whole 0 true else heads.Bad

abbrev pub head_step : Format → Head → List ℕ → Head
head_step format heads.Nothing w = if bytes_eq w (112 ∷ []) then heads.P else heads.Bad
head_step format heads.P w = named_head format w
head_step format heads.Cnf w = vars_head (count_at w)
head_step format (heads.Vars v) w = whole_head v (count_at w)
head_step format (heads.Whole v small) w = heads.Bad
head_step format heads.Bad w = heads.Bad

abbrev pub head_counts : Head → Result ℕ CnfCode
head_counts (heads.Whole v small) = if nat_lt max_var v || not small then Err Limit else Ok v
head_counts heads.Nothing = Err Header
head_counts heads.P = Err Header
head_counts heads.Cnf = Err Header
head_counts (heads.Vars v) = Err Header
head_counts heads.Bad = Err Header

abbrev pub end_phase : List ℕ → Phase
end_phase begun = if length begun == 0 then Ended else Failed Unterminated

abbrev pub ask_phase : List ℕ → Phase
ask_phase begun = if length begun == 0 then Ask else Failed Unterminated

abbrev pub is_first : Spot → Bool
is_first Start = false
is_first Comment = false
is_first First = true
is_first Later = false

abbrev pub after_word : Machine → Phase → Taken → Machine
after_word s phase taken = record s { phase = phase; spot = Later; word = []; taken = taken }

abbrev pub after_add : Result Taken CnfCode → Machine → Machine
after_add (Ok t) s = after_word s s.phase t
after_add (Err c) s = after_word s (Failed c) s.taken

unfoldable pub body_word : Machine → Machine
body_word s = if is_first s.spot && is_end s.word
    then after_word s (end_phase s.taken.begun) s.taken
    else if is_first s.spot && is_ask (format_of s.taken.content) s.word
    then after_word s (ask_phase s.taken.begun) s.taken
    else after_add (add_word s.taken s.word) s

abbrev pub after_ask : Result ℤ CnfCode → Machine → Machine
after_ask (Err c) s = after_word s (Failed c) s.taken
after_ask (Ok (pos zero)) s = after_word s Asked (asked s.taken)
after_ask (Ok (pos (suc n))) s = if nat_le most_assumptions (length s.taken.begun)
    then after_word s (Failed Limit) s.taken
    else after_word s Ask (with_assumption s.taken (pos (suc n)))
after_ask (Ok (negsuc n)) s = if nat_le most_assumptions (length s.taken.begun)
    then after_word s (Failed Limit) s.taken
    else after_word s Ask (with_assumption s.taken (negsuc n))

abbrev pub word_by_phase : Phase → Machine → Machine
word_by_phase (Before h) s =
    after_word s (Before (head_step (format_of s.taken.content) h s.word)) s.taken
word_by_phase Body s = body_word s
word_by_phase Ask s = after_ask (number_in s.word) s
word_by_phase Asked s = after_word s (Failed Word) s.taken
word_by_phase Ended s = s
word_by_phase (Failed c) s = s

unfoldable pub word_ends : Machine → Machine
word_ends s = if length s.word == 0 then s else word_by_phase s.phase s

abbrev pub new_line : Machine → Machine
new_line s = record s { line = s.line + 1; spot = Start }

abbrev pub body_begins : Machine → ℕ → Machine
body_begins s v = record s {
  line = s.line + 1;
  spot = Start;
  phase = Body;
  taken = begin (format_of s.taken.content) v;
}

abbrev pub after_head : Result ℕ CnfCode → Machine → Machine
after_head (Ok v) s = body_begins s v
after_head (Err c) s = record s { phase = Failed c }

abbrev pub line_by_phase : Phase → Machine → Machine
line_by_phase (Before heads.Nothing) s = new_line s
line_by_phase (Before heads.P) s = after_head (Err Header) s
line_by_phase (Before heads.Cnf) s = after_head (Err Header) s
line_by_phase (Before (heads.Vars v)) s = after_head (Err Header) s
line_by_phase (Before (heads.Whole v small)) s = after_head (head_counts (heads.Whole v small)) s
line_by_phase (Before heads.Bad) s = after_head (Err Header) s
line_by_phase Body s = new_line s
line_by_phase Ask s = record s { phase = Failed Unterminated }
line_by_phase Asked s = record s { line = s.line + 1; spot = Start; phase = Body }
line_by_phase Ended s = s
line_by_phase (Failed c) s = s

unfoldable pub line_ends : Machine → Machine
line_ends s = line_by_phase s.phase s

abbrev pub go_inside : Spot → Spot
go_inside Start = First
go_inside Comment = Comment
go_inside First = First
go_inside Later = Later

abbrev pub inside : Machine → Machine
inside s = record s { spot = go_inside s.spot }

abbrev pub is_over : Phase → Bool
is_over (Before h) = false
is_over Body = false
is_over Ask = false
is_over Asked = false
is_over Ended = true
is_over (Failed c) = true

abbrev pub is_start : Spot → Bool
is_start Start = true
is_start Comment = false
is_start First = false
is_start Later = false

abbrev pub in_comment : Spot → Bool
in_comment Start = false
in_comment Comment = true
in_comment First = false
in_comment Later = false

abbrev pub byte_in_line : Machine → ℕ → Machine
byte_in_line s b = if in_comment s.spot then s else if is_white b then inside (word_ends s)
    else if is_start s.spot && b == 99 then record s { spot = Comment }
    else inside (record s { word = s.word ++ b ∷ [] })

unfoldable pub take_byte : Machine → ℕ → Machine
take_byte s b = if is_over s.phase then s else if b == 10 then line_ends (word_ends s)
    else byte_in_line s b

-- the input has ended
abbrev pub last_line : Machine → Machine
last_line s = if is_start s.spot then s else line_ends (word_ends s)

-- at the end of the input memory may be wanting for a word that has not ended alone, and a number
-- behind the last line that has one
abbrev pub LacksMemory : Machine → Type 0
LacksMemory s = (0 < length s.word) ⊎ (s.line ≡ 2 ^ 64 - 1)

abbrev pub answer_of : Phase → ℕ → Taken → Result File CnfFault
answer_of (Before h) line t = Err (record { line = line; code = Header })
answer_of Body line t = whole t line
answer_of Ask line t = Err (record { line = line; code = Unterminated })
answer_of Asked line t = whole t line
answer_of Ended line t = Ok (record { vars = t.vars; content = t.content })
answer_of (Failed c) line t = Err (record { line = line; code = c })

abbrev pub answer_now : Machine → Result File CnfFault
answer_now s = answer_of s.phase s.line s.taken

unfoldable pub answer : Machine → Result File CnfFault
answer s = answer_now (last_line s)

unfoldable pub run : Machine → List ℕ → Machine
run s bytes = fold take_byte s bytes
