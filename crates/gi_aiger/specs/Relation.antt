-- The two forms of AIGER 1.9 as relations between a value and all bytes of a file, by the lines of the file (each with its LF).
use Rattle.std.specs.Prelude.{◌≡◌, ℕ, ◌+◌, ◌*◌, ◌%◌, ◌≤◌, ◌⊎◌, true, false, List, [], ◌∷◌, ◌++◌, length, map, All, Contains, Option, Some, None, Ok}
use Rattle.std.specs.List.{flat_map}
use Rattle.gi_aiger.specs.declared.aig.Aig.{Aig}
use Rattle.gi_aiger.specs.declared.aig.Reset.{Reset}
use Rattle.gi_aiger.specs.declared.aig.Reset.TheVariants.{Zero, One, Free}
use Rattle.gi_aiger.specs.declared.aig.Latch.{Latch}
use Rattle.gi_aiger.specs.declared.aig.Symbol.{Symbol}
use Rattle.gi_aiger.specs.declared.head.Form.{Form}
use Rattle.gi_aiger.specs.declared.head.Form.TheVariants.{Ascii, Binary}
use Rattle.gi_aiger.specs.declared.head.Head.{Head}
use Rattle.gi_aiger.specs.declared.row.Row.{Row}
use Rattle.gi_aiger.specs.declared.row.Row.TheVariants as rows
use Rattle.gi_aiger.specs.declared.row.Section.{Section}
use Rattle.gi_aiger.specs.declared.row.Section.TheVariants as sections
use Rattle.gi_aiger.specs.Fields.{numbers_of, with_own}
use Rattle.gi_aiger.specs.Header.{header_of}
use Rattle.gi_aiger.specs.Lines.{lines_of, bare, joined}
use Rattle.gi_aiger.specs.Rows.{literals_in, defined_variables, IsClosed}
use Rattle.gi_aiger.specs.Sections.{sections_of}
use Rattle.gi_aiger.specs.Symbols.{symbol_of}
use Rattle.gi_aiger.specs.Named.{is_named}
use Rattle.gi_aiger.specs.Evens.{evens}
use Rattle.gi_aiger.specs.Files.{begins_comment, comment_of}
use Rattle.gi_aiger.specs.Levels.{HasLevels}
use Rattle.gi_aiger.specs.Deltas.{AreGates}
use Rattle.gi_aiger.specs.Limits.{most_items}

-- the header of a value
abbrev pub head_of_aig : Form → Aig → Head
head_of_aig form v = record { form = form; max = v.max; inputs = length v.inputs; latches = length v.latches; outs = length v.outs; gates = length v.gates; bads = length v.bads; cons = length v.cons; justice = length v.justice; fair = length v.fair }

-- what the lines of a section say
abbrev pub rows_at : Aig → Section → List Row
rows_at v sections.Input = map rows.Input v.inputs
rows_at v sections.Latch = map rows.Latch v.latches
rows_at v sections.Out = map rows.Out v.outs
rows_at v sections.Bad = map rows.Bad v.bads
rows_at v sections.Con = map rows.Con v.cons
rows_at v sections.Size = map (λ p. rows.Size (length p)) v.justice
rows_at v sections.Justice = map rows.Justice (flat_map (λ p. p) v.justice)
rows_at v sections.Fair = map rows.Fair v.fair
rows_at v sections.Gate = map rows.Gate v.gates

-- what all sections say, in their order
abbrev pub rows_of : Aig → List Row
rows_of v = flat_map (rows_at v) (sections_of Ascii)

-- the number of a reset: an uninitialised latch names itself
abbrev pub reset_number : Latch → Reset → ℕ
reset_number l Zero = 0
reset_number l One = 1
reset_number l Free = l.lit

-- the numbers of a line that says a row; a reset of 0 may be missing
abbrev pub Spells : Row → List ℕ → Type 0
Spells (rows.Input l) ns = ns ≡ l ∷ []
Spells (rows.Latch l) ns = (ns ≡ l.lit ∷ l.next ∷ reset_number l l.reset ∷ []) ⊎ ((l.reset ≡ Zero) × (ns ≡ l.lit ∷ l.next ∷ []))
Spells (rows.Out l) ns = ns ≡ l ∷ []
Spells (rows.Bad l) ns = ns ≡ l ∷ []
Spells (rows.Con l) ns = ns ≡ l ∷ []
Spells (rows.Size n) ns = ns ≡ n ∷ []
Spells (rows.Justice l) ns = ns ≡ l ∷ []
Spells (rows.Fair l) ns = ns ≡ l ∷ []
Spells (rows.Gate g) ns = ns ≡ g.lhs ∷ g.rhs0 ∷ g.rhs1 ∷ []

-- the number in front that a line of the form leaves out: a latch's own literal in the binary form
abbrev pub leaves_out : Form → Row → Option ℕ
leaves_out Ascii row = None
leaves_out Binary (rows.Latch l) = Some l.lit
leaves_out Binary row = None

-- a line says a row
pub record Says (form : Form) (line : List ℕ) (row : Row) : Type 0 where
  pub numbers : List ℕ
  pub are : with_own (leaves_out form row) (numbers_of (bare line)) ≡ Some numbers
  pub spell : Spells row numbers

-- lines say rows, one each
abbrev pub AllSay : Form → List (List ℕ) → List Row → Type 0
AllSay form [] [] = Unit {0}
AllSay form [] (r ∷ rs) = ⊥
AllSay form (l ∷ ls) [] = ⊥
AllSay form (l ∷ ls) (r ∷ rs) = Says form l r × AllSay form ls rs

-- lines are symbols of a file with this header, behind those so far, no kind and place twice
abbrev pub AllName : Head → List Symbol → List (List ℕ) → List Symbol → Type 0
AllName h y [] [] = Unit {0}
AllName h y [] (s ∷ ss) = ⊥
AllName h y (l ∷ ls) [] = ⊥
AllName h y (l ∷ ls) (s ∷ ss) = (begins_comment l ≡ false) × (symbol_of h (bare l) ≡ Some s) × (is_named y s.kind s.place ≡ false) × AllName h (y ++ s ∷ []) ls ss

-- what stands behind the symbols: nothing, or a comment
abbrev pub IsRest : List (List ℕ) → Option (List ℕ) → Type 0
IsRest [] comment = comment ≡ None
IsRest (l ∷ ls) comment = (begins_comment l ≡ true) × (comment ≡ Some (comment_of (joined (l ∷ ls))))

-- a literal that defines is even, and its variable is one from 1 to the greatest
abbrev pub IsDefining : ℕ → ℕ → Type 0
IsDefining max l = (l % 2 ≡ 0) × (2 ≤ l) × (l ≤ 2 * max)

abbrev pub defining_literals : Aig → List ℕ
defining_literals v = v.inputs ++ map (λ l. l.lit) v.latches ++ map (λ g. g.lhs) v.gates

-- no number comes twice
abbrev pub AreOnce : List ℕ → Type 0
AreOnce [] = Unit {0}
AreOnce (x ∷ xs) = (Contains xs x → ⊥) × AreOnce xs

-- a value that has bytes, its header and limits left aside
pub record IsSound (v : Aig) : Type 0 where
  pub defining : All (IsDefining v.max) (defining_literals v)
  pub literals : All (λ l. l ≤ 2 * v.max + 1) (flat_map literals_in (rows_of v))
  pub once : AreOnce (defined_variables (rows_of v))
  pub closed : IsClosed (rows_of v)
  pub levels : HasLevels v.gates
  pub sizes : length (flat_map (λ p. p) v.justice) ≤ most_items

-- the ASCII form
pub record IsAscii (v : Aig) (bytes : List ℕ) : Type 0 where
  pub head : List ℕ
  pub body : List (List ℕ)
  pub names : List (List ℕ)
  pub rest : List (List ℕ)
  pub lines : lines_of bytes ≡ head ∷ (body ++ (names ++ rest))
  pub header : header_of (bare head) ≡ Ok (head_of_aig Ascii v)
  pub sections : AllSay Ascii body (rows_of v)
  pub named : AllName (head_of_aig Ascii v) [] names v.symbols
  pub comment : IsRest rest v.comment
  pub sound : IsSound v

-- in the binary form the variables are numbered: inputs, then latches, then gates
pub record IsNumbered (v : Aig) : Type 0 where
  pub literals : defining_literals v ≡ evens v.max

-- the binary form: lines up to the gates, the gates' bytes, and lines again
pub record IsBinary (v : Aig) (bytes : List ℕ) : Type 0 where
  pub head : List ℕ
  pub body : List (List ℕ)
  pub behind : List (List ℕ)
  pub gates : List ℕ
  pub after : List ℕ
  pub names : List (List ℕ)
  pub rest : List (List ℕ)
  pub lines : lines_of bytes ≡ head ∷ (body ++ behind)
  pub parts : joined behind ≡ gates ++ after
  pub lines_after : lines_of after ≡ names ++ rest
  pub header : header_of (bare head) ≡ Ok (head_of_aig Binary v)
  pub sections : AllSay Binary body (flat_map (rows_at v) (sections.Latch ∷ sections.Out ∷ sections.Bad ∷ sections.Con ∷ sections.Size ∷ sections.Justice ∷ sections.Fair ∷ []))
  pub gates_are : AreGates v.gates gates
  pub named : AllName (head_of_aig Binary v) [] names v.symbols
  pub comment : IsRest rest v.comment
  pub numbered : IsNumbered v
  pub sound : IsSound v

-- a file of either form says this value
abbrev pub IsAig : Aig → List ℕ → Type 0
IsAig v bytes = IsAscii v bytes ⊎ IsBinary v bytes
