-- The formats as relations between a value and all bytes of a file.
use Rattle.std.specs.Prelude.{◌≡◌, ℕ, ◌≤◌, ◌/◌, ◌-◌, ◌%◌, ◌==◌, max, ℤ, pos, negsuc, Bool, true, false, List, [], ◌∷◌, ◌++◌, length, drop, Some, Ok, ◌⊎◌, if◌then◌else◌}
use Rattle.std.specs.List.{AllByRecursion}
use Rattle.gi_text.specs.Words.{words_of}
use Rattle.gi_text.specs.Numbers as numbers
use Rattle.gi_dimacs.specs.declared.cnf.Cnf.{Cnf}
use Rattle.gi_dimacs.specs.declared.cnf.Icnf.{Icnf}
use Rattle.gi_dimacs.specs.declared.items.Item.{Item}
use Rattle.gi_dimacs.specs.declared.items.Item.TheVariants.{Clause, Ask}
use Rattle.gi_dimacs.specs.declared.content.Format.{Format}
use Rattle.gi_dimacs.specs.Lines.{lines_of}
use Rattle.gi_dimacs.specs.Content.{File, format_of, items_of, clauses_in, literals_in, greatest_of}
use Rattle.gi_dimacs.specs.Files.{is_comment, is_end, is_ask, header_words}
use Rattle.gi_dimacs.specs.Texts.{cnf_file, icnf_file}
use Rattle.gi_lit.specs.Literals.{max_var}
use Rattle.gi_dimacs.specs.Limits.{most_assumptions}

-- the words of a line; a comment has none
unfoldable pub line_words : List ℕ → List (List ℕ)
line_words line = if is_comment line then [] else words_of line

-- a line that ends the file
abbrev pub begins_end : List (List ℕ) → Bool
begins_end [] = false
begins_end (w ∷ ws) = is_end w

-- a line that is an ask
abbrev pub begins_ask : Format → List (List ℕ) → Bool
begins_ask format [] = false
begins_ask format (w ∷ ws) = is_ask format w

-- what lines say: numbers, and whole asks
pub data Token : Type 0 where
  Number : ℤ → Token
  Asks : List ℕ → Token

-- the number that a literal's code is
unfoldable pub to_number : ℕ → ℤ
to_number l = if l % 2 == 0 then pos (l / 2) else negsuc (l / 2 - 1)

-- the literals of a list, and its 0
abbrev pub list_tokens : List ℕ → List Token
list_tokens [] = Number (pos 0) ∷ []
list_tokens (l ∷ ls) = Number (to_number l) ∷ list_tokens ls

-- the words are these numbers
abbrev pub AreNumbers : List (List ℕ) → List Token → Type 0
AreNumbers [] [] = Unit {0}
AreNumbers [] (t ∷ ts) = ⊥
AreNumbers (w ∷ ws) [] = ⊥
AreNumbers (w ∷ ws) (Number z ∷ ts) = (numbers.number_of w ≡ Some z) × AreNumbers ws ts
AreNumbers (w ∷ ws) (Asks lits ∷ ts) = ⊥

-- an ask: behind its `a` the line's words are a list and its 0
pub record SaysAsk (words : List (List ℕ)) (tokens : List Token) : Type 0 where
  pub lits : List ℕ
  pub one : tokens ≡ Asks lits ∷ []
  pub spelled : AreNumbers (drop 1 words) (list_tokens lits)

-- what a line of the body says
abbrev pub LineSays : Format → List (List ℕ) → List Token → Type 0
LineSays format words tokens = ((begins_ask format words ≡ false) × AreNumbers words tokens)
    ⊎ ((begins_ask format words ≡ true) × SaysAsk words tokens)

-- what lines say, one after another
abbrev pub LinesSay : Format → List (List ℕ) → List Token → Type 0
LinesSay format [] tokens = tokens ≡ []
LinesSay format (l ∷ ls) tokens = (first : List Token) × (rest : List Token)
    × (tokens ≡ first ++ rest) × LineSays format (line_words l) first × LinesSay format ls rest

-- what items say: a clause may stand on several lines, an ask is one
abbrev pub tokens_of : List Item → List Token
tokens_of [] = []
tokens_of (Clause c ∷ items) = list_tokens c ++ tokens_of items
tokens_of (Ask lits ∷ items) = Asks lits ∷ tokens_of items

-- literals of variables from 1 on, and an ask's within the limit
abbrev pub IsProper : Item → Type 0
IsProper (Clause c) = AllByRecursion (λ l. 1 ≤ l / 2) c
IsProper (Ask lits) = AllByRecursion (λ l. 1 ≤ l / 2) lits × (length lits ≤ most_assumptions)

pub record IsFile (f : File) (bytes : List ℕ) : Type 0 where
  pub front : List (List ℕ)
  pub head : List ℕ
  pub body : List (List ℕ)
  pub tail : List (List ℕ)
  pub declared : ℕ
  pub lines : lines_of bytes ≡ front ++ head ∷ (body ++ tail)
  -- comments and blank lines, and then the header
  pub silent : AllByRecursion (λ l. line_words l ≡ []) front
  pub header : header_words (format_of f.content) (line_words head) ≡ Ok declared
  -- the body goes up to the end of the file, or to a line that begins with %
  pub going : AllByRecursion (λ l. begins_end (line_words l) ≡ false) body
  pub ending : (tail ≡ []) ⊎ ((l : List ℕ) × (ls : List (List ℕ)) × (tail ≡ l ∷ ls)
      × (begins_end (line_words l) ≡ true))
  -- its lines say the clauses and asks, in order
  pub spelled : LinesSay (format_of f.content) body (tokens_of (items_of f.content))
  pub vars : f.vars ≡ max declared (greatest_of (items_of f.content))
  -- within the limits
  pub proper : AllByRecursion IsProper (items_of f.content)
  pub small : greatest_of (items_of f.content) ≤ max_var
  pub clauses : clauses_in (items_of f.content) ≤ 4194304
  pub literals : literals_in (items_of f.content) ≤ 67108864

abbrev pub IsCnf : Cnf → List ℕ → Type 0
IsCnf v bytes = IsFile (cnf_file v) bytes

abbrev pub IsIcnf : Icnf → List ℕ → Type 0
IsIcnf v bytes = IsFile (icnf_file v) bytes
