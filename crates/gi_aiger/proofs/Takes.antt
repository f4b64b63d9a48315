-- What the lines so far say, and the line behind them.
use Rattle.std.proofs.Common.{◌≡◌, ℕ, nat_le, List, length, get_or, Bool, true, false, cond, Option, Some, None, Result, Ok, Err, refl, sym, subst, arith}
use Rattle.std.proofs.lemmas.Bool.Decides.{nat_tests}
use Rattle.gi_aiger.specs.declared.fault.AigCode.{AigCode}
use Rattle.gi_aiger.specs.declared.fault.AigCode.TheVariants.{Count, Limit}
use Rattle.gi_aiger.specs.declared.aig.Reset.{Reset}
use Rattle.gi_aiger.specs.declared.row.Section.{Section}
use Rattle.gi_aiger.specs.declared.row.Section.TheVariants as sections
use Rattle.gi_aiger.specs.declared.row.Row.{Row}
use Rattle.gi_aiger.specs.declared.row.Row.TheVariants as rows
use Rattle.gi_aiger.specs.declared.taken.Taken.{Taken}
use Rattle.gi_aiger.specs.Rows.{has_row, literal_of, defining_of, reset_of, latch_of, gate_of, row_with, size_of, row_of, row_read}
use Rattle.gi_aiger.specs.Taking.{with_row, Fits}

-- a row goes to its list and leaves the marks
pub marks_stay : (t : Taken) (row : Row) → (with_row t row).marks ≡ t.marks
marks_stay t (rows.Input l) = refl
marks_stay t (rows.Latch l) = refl
marks_stay t (rows.Out l) = refl
marks_stay t (rows.Bad l) = refl
marks_stay t (rows.Con l) = refl
marks_stay t (rows.Size n) = refl
marks_stay t (rows.Justice l) = refl
marks_stay t (rows.Fair l) = refl
marks_stay t (rows.Gate g) = refl

-- what a right line says leaves room for the justice literals
abbrev IsFit : ℕ → Result Row AigCode → Type 0
IsFit room (Ok row) = Fits room row
IsFit room (Err c) = Unit {0}

with_fit : (room : ℕ) (row : ℕ → Row) → ((n : ℕ) → Fits room (row n)) → (r : Result ℕ AigCode) → IsFit room (row_with row r)
with_fit room row h (Ok n) = h n
with_fit room row h (Err c) = tt

latch_fit : (room : ℕ) (own next : Result ℕ AigCode) (reset : Result Reset AigCode) → IsFit room (latch_of own next reset)
latch_fit room (Ok l) (Ok n) (Ok r) = tt
latch_fit room (Ok l) (Ok n) (Err c) = tt
latch_fit room (Ok l) (Err c) reset = tt
latch_fit room (Err c) next reset = tt

gate_fit : (room : ℕ) (lhs rhs0 rhs1 : Result ℕ AigCode) → IsFit room (gate_of lhs rhs0 rhs1)
gate_fit room (Ok l) (Ok a) (Ok b) = tt
gate_fit room (Ok l) (Ok a) (Err c) = tt
gate_fit room (Ok l) (Err c) rhs1 = tt
gate_fit room (Err c) rhs0 rhs1 = tt

size_fit : (room n : ℕ) → IsFit room (row_with rows.Size (size_of room n))
size_fit room n = by_test (nat_le n room) refl where
  by_test : (b : Bool) → nat_le n room ≡ b → IsFit room (row_with rows.Size (cond b (Ok n) (Err Limit)))
  by_test true t = grind (arith, nat_tests, t)
  by_test false f = tt

row_fit : (max room : ℕ) (section : Section) (ns : List ℕ) → IsFit room (row_of max room section ns)
row_fit max room sections.Input ns = with_fit room rows.Input (λ n. tt) (defining_of max (get_or ns 0 0))
row_fit max room sections.Latch ns = latch_fit room (defining_of max (get_or ns 0 0)) (literal_of max (get_or ns 1 0)) (reset_of (get_or ns 0 0) (get_or ns 2 0))
row_fit max room sections.Out ns = with_fit room rows.Out (λ n. tt) (literal_of max (get_or ns 0 0))
row_fit max room sections.Bad ns = with_fit room rows.Bad (λ n. tt) (literal_of max (get_or ns 0 0))
row_fit max room sections.Con ns = with_fit room rows.Con (λ n. tt) (literal_of max (get_or ns 0 0))
row_fit max room sections.Size ns = size_fit room (get_or ns 0 0)
row_fit max room sections.Justice ns = with_fit room rows.Justice (λ n. tt) (literal_of max (get_or ns 0 0))
row_fit max room sections.Fair ns = with_fit room rows.Fair (λ n. tt) (literal_of max (get_or ns 0 0))
row_fit max room sections.Gate ns = gate_fit room (defining_of max (get_or ns 0 0)) (literal_of max (get_or ns 1 0)) (literal_of max (get_or ns 2 0))

read_fit : (max room : ℕ) (section : Section) (read : Option (List ℕ)) → IsFit room (row_read max room section read)
read_fit max room section None = tt
read_fit max room section (Some ns) = by_test (has_row section (length ns)) where
  by_test : (b : Bool) → IsFit room (cond b (row_of max room section ns) (Err Count))
  by_test true = row_fit max room section ns
  by_test false = tt

pub row_fits : (max room : ℕ) (section : Section) (read : Option (List ℕ)) (row : Row) → Ok row ≡ row_read max room section read → Fits room row
row_fits max room section read row e = subst (IsFit room) (sym e) (read_fit max room section read)
