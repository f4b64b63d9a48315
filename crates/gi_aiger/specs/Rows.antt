-- The lines between the header and the symbols.
use Rattle.std.specs.Prelude.{ℕ, ◌+◌, ◌*◌, ◌/◌, ◌%◌, nat_le, Bool, ◌==◌, ◌&&◌, ◌||◌, not, List, [], ◌∷◌, ◌++◌, length, map, filter, slice_index, All, Contains, Option, Some, None, Result, Ok, Err, if◌then◌else◌}
use Rattle.std.specs.List.{flat_map}
use Rattle.gi_aiger.specs.declared.fault.AigCode.{AigCode}
use Rattle.gi_aiger.specs.declared.fault.AigCode.TheVariants.{Limit, Count, Literal}
use Rattle.gi_aiger.specs.declared.aig.Reset.{Reset}
use Rattle.gi_aiger.specs.declared.aig.Reset.TheVariants.{Zero, One, Free}
use Rattle.gi_aiger.specs.declared.row.Section.{Section}
use Rattle.gi_aiger.specs.declared.row.Section.TheVariants as sections
use Rattle.gi_aiger.specs.declared.row.Row.{Row}
use Rattle.gi_aiger.specs.declared.row.Row.TheVariants as rows

-- how many numbers a line of a section has
abbrev pub has_row : Section → ℕ → Bool
has_row sections.Input n = n == 1
has_row sections.Latch n = (n == 2) || (n == 3)
has_row sections.Out n = n == 1
has_row sections.Bad n = n == 1
has_row sections.Con n = n == 1
has_row sections.Size n = n == 1
has_row sections.Justice n = n == 1
has_row sections.Fair n = n == 1
has_row sections.Gate n = n == 3

-- a literal of the variables up to the greatest
abbrev pub literal_of : ℕ → ℕ → Result ℕ AigCode
literal_of max n = if nat_le n (2 * max + 1) then Ok n else Err Literal

-- one that defines its variable: even, and not 0
abbrev pub defining_of : ℕ → ℕ → Result ℕ AigCode
defining_of max n = if (n % 2 == 0) && nat_le 2 n then literal_of max n else Err Literal

-- what a latch holds at first: 0, 1, or the latch's own literal where it may be either
abbrev pub reset_of : ℕ → ℕ → Result Reset AigCode
reset_of lit n = if n == 0 then Ok Zero else if n == 1 then Ok One else if n == lit then Ok Free else Err Literal

-- the latch, if its parts are right
abbrev pub latch_of : Result ℕ AigCode → Result ℕ AigCode → Result Reset AigCode → Result Row AigCode
latch_of (Ok lit) (Ok next) (Ok reset) = Ok (rows.Latch (record { lit = lit; next = next; reset = reset }))
latch_of (Ok lit) (Ok next) (Err c) = Err c
latch_of (Ok lit) (Err c) reset = Err c
latch_of (Err c) next reset = Err c

-- the gate, if its parts are right
abbrev pub gate_of : Result ℕ AigCode → Result ℕ AigCode → Result ℕ AigCode → Result Row AigCode
gate_of (Ok lhs) (Ok rhs0) (Ok rhs1) = Ok (rows.Gate (record { lhs = lhs; rhs0 = rhs0; rhs1 = rhs1 }))
gate_of (Ok lhs) (Ok rhs0) (Err c) = Err c
gate_of (Ok lhs) (Err c) rhs1 = Err c
gate_of (Err c) rhs0 rhs1 = Err c

abbrev pub row_with : (ℕ → Row) → Result ℕ AigCode → Result Row AigCode
row_with row (Ok n) = Ok (row n)
row_with row (Err c) = Err c

-- a justice property's size, where the sizes so far leave room for it
abbrev pub size_of : ℕ → ℕ → Result ℕ AigCode
size_of room n = if nat_le n room then Ok n else Err Limit

-- what the numbers of a line of a section say, if they are as many as it has; a missing reset is 0
abbrev pub row_of : ℕ → ℕ → Section → List ℕ → Result Row AigCode
row_of max room sections.Input ns = row_with rows.Input (defining_of max (slice_index ns 0))
row_of max room sections.Latch ns = latch_of (defining_of max (slice_index ns 0)) (literal_of max (slice_index ns 1)) (reset_of (slice_index ns 0) (slice_index ns 2))
row_of max room sections.Out ns = row_with rows.Out (literal_of max (slice_index ns 0))
row_of max room sections.Bad ns = row_with rows.Bad (literal_of max (slice_index ns 0))
row_of max room sections.Con ns = row_with rows.Con (literal_of max (slice_index ns 0))
row_of max room sections.Size ns = row_with rows.Size (size_of room (slice_index ns 0))
row_of max room sections.Justice ns = row_with rows.Justice (literal_of max (slice_index ns 0))
row_of max room sections.Fair ns = row_with rows.Fair (literal_of max (slice_index ns 0))
row_of max room sections.Gate ns = gate_of (defining_of max (slice_index ns 0)) (literal_of max (slice_index ns 1)) (literal_of max (slice_index ns 2))

abbrev pub row_numbers : ℕ → ℕ → Section → List ℕ → Result Row AigCode
row_numbers max room section ns = if has_row section (length ns) then row_of max room section ns else Err Count

-- what a line of a section says, by its numbers
abbrev pub row_read : ℕ → ℕ → Section → Option (List ℕ) → Result Row AigCode
row_read max room section (Some ns) = row_numbers max room section ns
row_read max room section None = Err Count

-- the section of a row
abbrev pub section_of : Row → Section
section_of (rows.Input l) = sections.Input
section_of (rows.Latch l) = sections.Latch
section_of (rows.Out l) = sections.Out
section_of (rows.Bad l) = sections.Bad
section_of (rows.Con l) = sections.Con
section_of (rows.Size n) = sections.Size
section_of (rows.Justice l) = sections.Justice
section_of (rows.Fair l) = sections.Fair
section_of (rows.Gate g) = sections.Gate

-- the literals that a line uses
abbrev pub literals_in : Row → List ℕ
literals_in (rows.Input l) = []
literals_in (rows.Latch l) = l.next ∷ []
literals_in (rows.Out l) = l ∷ []
literals_in (rows.Bad l) = l ∷ []
literals_in (rows.Con l) = l ∷ []
literals_in (rows.Size n) = []
literals_in (rows.Justice l) = l ∷ []
literals_in (rows.Fair l) = l ∷ []
literals_in (rows.Gate g) = g.rhs0 ∷ g.rhs1 ∷ []

-- the variables that it uses; a constant is none
abbrev pub uses_of : Row → List ℕ
uses_of row = filter (λ v. not (v == 0)) (map (λ l. l / 2) (literals_in row))

-- the variable that a line defines
abbrev pub defined_by : Row → Option ℕ
defined_by (rows.Input l) = Some (l / 2)
defined_by (rows.Latch l) = Some (l.lit / 2)
defined_by (rows.Out l) = None
defined_by (rows.Bad l) = None
defined_by (rows.Con l) = None
defined_by (rows.Size n) = None
defined_by (rows.Justice l) = None
defined_by (rows.Fair l) = None
defined_by (rows.Gate g) = Some (g.lhs / 2)

-- the variable of a line that defines one
abbrev pub variables_by : Option ℕ → List ℕ
variables_by None = []
variables_by (Some v) = v ∷ []

-- the variables that lines define, in order
abbrev pub defined_variables : List Row → List ℕ
defined_variables [] = []
defined_variables (r ∷ rs) = variables_by (defined_by r) ++ defined_variables rs

-- each variable that these lines use is one that they define
abbrev pub IsClosed : List Row → Type 0
IsClosed lines = All (Contains (defined_variables lines)) (flat_map uses_of lines)
