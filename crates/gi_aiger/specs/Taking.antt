-- The lines between the header and the symbols, one after another.
use Rattle.std.specs.Prelude.{◌≡◌, ℕ, ◌+◌, ◌*◌, ◌-◌, ◌≤◌, nat_lt, Bool, true, false, List, [], ◌∷◌, ◌++◌, length, Option, Some, None, Result, Ok, Err, if◌then◌else◌}
use Rattle.gi_aiger.specs.declared.fault.AigCode.{AigCode}
use Rattle.gi_aiger.specs.declared.fault.AigCode.TheVariants.{Defined, Undefined}
use Rattle.gi_aiger.specs.declared.mark.Mark.{Mark}
use Rattle.gi_aiger.specs.declared.mark.Mark.TheVariants as marks
use Rattle.gi_aiger.specs.declared.head.Form.{Form}
use Rattle.gi_aiger.specs.declared.head.Form.TheVariants.{Ascii, Binary}
use Rattle.gi_aiger.specs.declared.head.Head.{Head}
use Rattle.gi_aiger.specs.declared.row.Section.{Section}
use Rattle.gi_aiger.specs.declared.row.Section.TheVariants as sections
use Rattle.gi_aiger.specs.declared.row.Row.{Row}
use Rattle.gi_aiger.specs.declared.row.Row.TheVariants as rows
use Rattle.gi_aiger.specs.declared.taken.Taken.{Taken}
use Rattle.gi_aiger.specs.Fields.{numbers_of, with_own}
use Rattle.gi_aiger.specs.Rows.{defined_by, row_read}
use Rattle.gi_aiger.specs.Marks.{mark_at, marked, missing}
use Rattle.gi_aiger.specs.Limits.{most_items}

abbrev pub nothing : Taken
nothing = record { inputs = []; latches = []; outs = []; bads = []; cons = []; sizes = []; total = 0; justice = []; fair = []; gates = []; marks = [] }

-- one line more, its variables left aside
abbrev pub with_row : Taken → Row → Taken
with_row t (rows.Input l) = record t { inputs = t.inputs ++ l ∷ [] }
with_row t (rows.Latch l) = record t { latches = t.latches ++ l ∷ [] }
with_row t (rows.Out l) = record t { outs = t.outs ++ l ∷ [] }
with_row t (rows.Bad l) = record t { bads = t.bads ++ l ∷ [] }
with_row t (rows.Con l) = record t { cons = t.cons ++ l ∷ [] }
with_row t (rows.Size n) = record t { sizes = t.sizes ++ n ∷ []; total = t.total + n }
with_row t (rows.Justice l) = record t { justice = t.justice ++ l ∷ [] }
with_row t (rows.Fair l) = record t { fair = t.fair ++ l ∷ [] }
with_row t (rows.Gate g) = record t { gates = t.gates ++ g ∷ [] }

-- the latch and gate lines that are still to come
abbrev pub to_come : Head → Taken → ℕ
to_come h t = (h.latches - length t.latches) + (h.gates - length t.gates)

abbrev pub is_defined : Mark → Bool
is_defined marks.Fresh = false
is_defined marks.Used = false
is_defined marks.Defined = true

-- the variable was defined before
abbrev pub is_known : Option ℕ → List Mark → Bool
is_known None ms = false
is_known (Some v) ms = is_defined (mark_at ms v)

-- how many more justice literals there may be
abbrev pub room : Taken → ℕ
room t = most_items - t.total

-- a line, with the marks of its variables
abbrev pub with_line : Taken → Row → Taken
with_line t row = with_row (record t { marks = marked row t.marks }) row

-- after a line more variables can be used and undefined than lines are to come that define one
abbrev pub checked : Head → Taken → Result Taken AigCode
checked h t = if nat_lt (to_come h t) (missing t.marks) then Err Undefined else Ok t

-- a line that is right by itself, behind those so far; in the binary form every variable is defined by its number
abbrev pub add_by : Form → Head → Taken → Row → Result Taken AigCode
add_by Ascii h t row = if is_known (defined_by row) t.marks then Err Defined else checked h (with_line t row)
add_by Binary h t row = Ok (with_row t row)

abbrev pub add_row : Head → Taken → Row → Result Taken AigCode
add_row h t row = add_by h.form h t row

abbrev pub then_row : Result Row AigCode → (Row → Result Taken AigCode) → Result Taken AigCode
then_row (Ok row) next = next row
then_row (Err c) next = Err c

-- the number in front of a line's numbers, where the form leaves it out: a latch's own literal in the binary form
abbrev pub left_out : Form → Section → ℕ → Option ℕ
left_out Ascii s own = None
left_out Binary sections.Input own = None
left_out Binary sections.Latch own = Some own
left_out Binary sections.Out own = None
left_out Binary sections.Bad own = None
left_out Binary sections.Con own = None
left_out Binary sections.Size own = None
left_out Binary sections.Justice own = None
left_out Binary sections.Fair own = None
left_out Binary sections.Gate own = None

-- the next latch of the binary form is numbered behind the inputs and the latches so far
abbrev pub own_latch : Head → Taken → ℕ
own_latch h t = 2 * (h.inputs + length t.latches + 1)

-- the numbers of a line, with the one that it leaves out
abbrev pub numbers_in : Head → Taken → Section → List ℕ → Option (List ℕ)
numbers_in h t section line = with_own (left_out h.form section (own_latch h t)) (numbers_of line)

-- a line of a section, behind those so far: its first fault in the order of the codes, or what the lines say with it
abbrev pub add_line : Head → Taken → Section → List ℕ → Result Taken AigCode
add_line h t section line = then_row (row_read h.max (room t) section (numbers_in h t section line)) (add_row h t)

-- what a line gives; where it is wrong the variables are forgotten
abbrev pub Gives : Option AigCode → Result Taken AigCode → Taken → Taken → Type 0
Gives None read old new = read ≡ Ok new
Gives (Some c) read old new = (read ≡ Err c) × (new ≡ record old { marks = [] })

-- a justice size within the room for it
abbrev pub Fits : ℕ → Row → Type 0
Fits room (rows.Input l) = Unit {0}
Fits room (rows.Latch l) = Unit {0}
Fits room (rows.Out l) = Unit {0}
Fits room (rows.Bad l) = Unit {0}
Fits room (rows.Con l) = Unit {0}
Fits room (rows.Size n) = n ≤ room
Fits room (rows.Justice l) = Unit {0}
Fits room (rows.Fair l) = Unit {0}
Fits room (rows.Gate g) = Unit {0}

-- no list is longer than its limit
pub record IsBounded (t : Taken) : Type 0 where
  pub inputs : length t.inputs ≤ most_items
  pub latches : length t.latches ≤ most_items
  pub outs : length t.outs ≤ most_items
  pub bads : length t.bads ≤ most_items
  pub cons : length t.cons ≤ most_items
  pub sizes : length t.sizes ≤ most_items
  pub justice : length t.justice ≤ most_items
  pub fair : length t.fair ≤ most_items
  pub gates : length t.gates ≤ most_items
