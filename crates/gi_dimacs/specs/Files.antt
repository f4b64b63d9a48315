-- Files of both formats, line by line.
use Rattle.std.specs.Prelude.{ℕ, zero, suc, ◌+◌, max, nat_le, nat_lt, ℤ, pos, negsuc, Bool, false, ◌==◌, ◌&&◌, ◌||◌, List, [], ◌∷◌, ◌++◌, length, Option, Some, None, Result, Ok, Err, if◌then◌else◌}
use Rattle.std.specs.Str.{bytes_eq}
use Rattle.std.specs.Char.{is_ascii_digit}
use Rattle.gi_lit.specs.Literals.{literal_of, max_var}
use Rattle.gi_text.specs.Words.{words_of}
use Rattle.gi_text.specs.Numbers.{number_of, size_of}
use Rattle.gi_dimacs.specs.declared.fault.CnfCode.{CnfCode}
use Rattle.gi_dimacs.specs.declared.fault.CnfCode.TheVariants.{Header, Word, Number, Limit, Unterminated}
use Rattle.gi_dimacs.specs.declared.fault.CnfFault.{CnfFault}
use Rattle.gi_dimacs.specs.declared.items.Item.TheVariants as items
use Rattle.gi_dimacs.specs.declared.content.Format.{Format}
use Rattle.gi_dimacs.specs.declared.content.Format.TheVariants as formats
use Rattle.gi_dimacs.specs.declared.words.Taken.{Taken}
use Rattle.gi_dimacs.specs.Content.{nothing, format_of, with_item, File}
use Rattle.gi_dimacs.specs.Lines.{lines_of}
use Rattle.gi_dimacs.specs.Limits.{most_assumptions}

-- nothing but a header's variables
abbrev pub begin : Format → ℕ → Taken
begin format vars = record {
  vars = vars;
  content = nothing format;
  ended = 0;
  begun = [];
  literals = 0;
}

-- the open clause ends
abbrev pub closed : Taken → Taken
closed t = record {
  vars = t.vars;
  content = with_item t.content (items.Clause t.begun);
  ended = t.ended + 1;
  begun = [];
  literals = t.literals;
}

-- the open ask ends
abbrev pub asked : Taken → Taken
asked t = record {
  vars = t.vars;
  content = with_item t.content (items.Ask t.begun);
  ended = t.ended;
  begun = [];
  literals = t.literals;
}

-- a literal of the open clause
abbrev pub with_literal : Taken → ℤ → Taken
with_literal t z = record {
  vars = max t.vars (size_of z);
  content = t.content;
  ended = t.ended;
  begun = t.begun ++ literal_of z ∷ [];
  literals = t.literals + 1;
}

-- a literal of the open ask, which isn't counted with those of clauses
abbrev pub with_assumption : Taken → ℤ → Taken
with_assumption t z = record {
  vars = max t.vars (size_of z);
  content = t.content;
  ended = t.ended;
  begun = t.begun ++ literal_of z ∷ [];
  literals = t.literals;
}

abbrev pub begins_number : List ℕ → Bool
begins_number [] = false
begins_number (b ∷ bs) = (b == 45) || is_ascii_digit b

abbrev pub within_variables : Option ℤ → Result ℤ CnfCode
within_variables None = Err Number
within_variables (Some z) = if nat_lt max_var (size_of z) then Err Limit else Ok z

-- the number that a word of a list is
unfoldable pub number_in : List ℕ → Result ℤ CnfCode
number_in word = if begins_number word then within_variables (number_of word) else Err Word

-- a number of a clause
abbrev pub add_number : Taken → ℤ → Result Taken CnfCode
add_number t (pos zero) = if nat_le 4194304 t.ended then Err Limit else Ok (closed t)
add_number t (pos (suc n)) = if nat_le 67108864 t.literals then Err Limit
    else Ok (with_literal t (pos (suc n)))
add_number t (negsuc n) = if nat_le 67108864 t.literals then Err Limit
    else Ok (with_literal t (negsuc n))

abbrev pub then_number : Result ℤ CnfCode → (ℤ → Result Taken CnfCode) → Result Taken CnfCode
then_number (Ok z) next = next z
then_number (Err c) next = Err c

-- a word of the clauses
unfoldable pub add_word : Taken → List ℕ → Result Taken CnfCode
add_word t word = then_number (number_in word) (λ z. add_number t z)

abbrev pub then_words : Result Taken CnfCode → (Taken → Result Taken CnfCode) → Result Taken CnfCode
then_words (Ok u) next = next u
then_words (Err c) next = Err c

-- the first bad word decides
unfoldable pub add_words : Taken → List (List ℕ) → Result Taken CnfCode
add_words t [] = Ok t
add_words t (w ∷ ws) = then_words (add_word t w) (λ u. add_words u ws)

-- nothing stands behind the 0 of an ask
abbrev pub ask_ends : Taken → List (List ℕ) → Result Taken CnfCode
ask_ends t [] = Ok (asked t)
ask_ends t (w ∷ ws) = Err Word

-- a number of an ask, and the words behind it
abbrev pub ask_number : Taken → Result ℤ CnfCode → List (List ℕ) → (Taken → Result Taken CnfCode)
    → Result Taken CnfCode
ask_number t (Err c) ws next = Err c
ask_number t (Ok (pos zero)) ws next = ask_ends t ws
ask_number t (Ok (pos (suc n))) ws next = if nat_le most_assumptions (length t.begun) then Err Limit
    else next (with_assumption t (pos (suc n)))
ask_number t (Ok (negsuc n)) ws next = if nat_le most_assumptions (length t.begun) then Err Limit
    else next (with_assumption t (negsuc n))

-- the words of an ask behind its `a`
unfoldable pub ask_words : Taken → List (List ℕ) → Result Taken CnfCode
ask_words t [] = Err Unterminated
ask_words t (w ∷ ws) = ask_number t (number_in w) ws (λ u. ask_words u ws)

-- what a line of the body does: the file goes on, ends, or has a fault
pub data Move : Type 0 where
  Goes : Taken → Move
  Ends : Move
  Stops : CnfCode → Move

abbrev pub moves : Result Taken CnfCode → Move
moves (Ok t) = Goes t
moves (Err c) = Stops c

abbrev pub is_comment : List ℕ → Bool
is_comment [] = false
is_comment (b ∷ bs) = b == 99

-- the word `%`, which ends a file
abbrev pub is_end : List ℕ → Bool
is_end w = bytes_eq w (37 ∷ [])

-- the word `a`, which begins an ask in iCNF
abbrev pub is_ask : Format → List ℕ → Bool
is_ask formats.Cnf w = false
is_ask formats.Icnf w = bytes_eq w (97 ∷ [])

-- an ask can't stand in an open clause
abbrev pub ask_line : Taken → List (List ℕ) → Move
ask_line t ws = if length t.begun == 0 then moves (ask_words t ws) else Stops Unterminated

abbrev pub body_words : Taken → List (List ℕ) → Move
body_words t [] = Goes t
body_words t (w ∷ ws) = if is_end w then Ends else if is_ask (format_of t.content) w
    then ask_line t ws else moves (add_words t (w ∷ ws))

unfoldable pub body_line : Taken → List ℕ → Move
body_line t line = if is_comment line then Goes t else body_words t (words_of line)

-- a number from 0 up
abbrev pub from_zero : Option ℤ → Option ℕ
from_zero (Some (pos n)) = Some n
from_zero (Some (negsuc n)) = None
from_zero None = None

abbrev pub count_at : List ℕ → Option ℕ
count_at word = from_zero (number_of word)

-- the counts of variables and clauses
abbrev pub check_counts : Option ℕ → Option ℕ → Result ℕ CnfCode
check_counts (Some v) (Some c) = if nat_lt max_var v || nat_lt 4294967295 c then Err Limit else Ok v
check_counts (Some v) None = Err Header
check_counts None c = Err Header

-- the header: `p cnf V C`, or `p inccnf`
abbrev pub header_words : Format → List (List ℕ) → Result ℕ CnfCode
header_words formats.Cnf (p ∷ cnf ∷ v ∷ c ∷ []) = if bytes_eq p (112 ∷ [])
    && bytes_eq cnf (99 ∷ 110 ∷ 102 ∷ []) then check_counts (count_at v) (count_at c)
    else Err Header
header_words formats.Icnf (p ∷ inccnf ∷ []) = if bytes_eq p (112 ∷ [])
    && bytes_eq inccnf (105 ∷ 110 ∷ 99 ∷ 99 ∷ 110 ∷ 102 ∷ []) then Ok 0 else Err Header
header_words format ws = Err Header

-- what stands at the end of a file
abbrev pub whole : Taken → ℕ → Result File CnfFault
whole t line = if length t.begun == 0 then Ok (record { vars = t.vars; content = t.content })
    else Err (record { line = line; code = Unterminated })

abbrev pub after_move : Move → Taken → ℕ → (Taken → Result File CnfFault) → Result File CnfFault
after_move (Goes u) t line next = next u
after_move Ends t line next = whole t line
after_move (Stops c) t line next = Err (record { line = line; code = c })

-- the lines behind the header, from a line on
unfoldable pub read_body : ℕ → Taken → List (List ℕ) → Result File CnfFault
read_body line t [] = whole t line
read_body line t (l ∷ ls) = after_move (body_line t l) t line (λ u. read_body (line + 1) u ls)

abbrev pub begin_body : Format → Result ℕ CnfCode → ℕ → (Taken → Result File CnfFault)
    → Result File CnfFault
begin_body format (Ok v) line next = next (begin format v)
begin_body format (Err c) line next = Err (record { line = line; code = c })

abbrev pub head_words : Format → List (List ℕ) → ℕ → Result File CnfFault
    → (Taken → Result File CnfFault) → Result File CnfFault
head_words format [] line silent next = silent
head_words format (w ∷ ws) line silent next =
    begin_body format (header_words format (w ∷ ws)) line next

-- the lines up to the header, and then the body
unfoldable pub read_lines : Format → ℕ → List (List ℕ) → Result File CnfFault
read_lines format line [] = Err (record { line = line; code = Header })
read_lines format line (l ∷ ls) = if is_comment l then read_lines format (line + 1) ls
    else head_words format (words_of l) line (read_lines format (line + 1) ls)
    (λ t. read_body (line + 1) t ls)

-- what a file says, or its first fault
unfoldable pub read_file : Format → List ℕ → Result File CnfFault
read_file format bytes = read_lines format 1 (lines_of bytes)
