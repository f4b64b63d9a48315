-- A line that says a row, behind those so far.
use Rattle.std.proofs.Common.{◌≡◌, ℕ, nat_lt, List, [], ◌∷◌, Bool, true, false, cond, inl, inr, Option, Some, None, Result, Ok, Err, refl, ap, sym, ◌∙◌}
use Rattle.gi_aiger.specs.declared.aig.Latch.{Latch}
use Rattle.gi_aiger.specs.declared.fault.AigCode.{AigCode}
use Rattle.gi_aiger.specs.declared.fault.AigCode.TheVariants.{Defined, Undefined}
use Rattle.gi_aiger.specs.declared.head.Form.{Form}
use Rattle.gi_aiger.specs.declared.head.Form.TheVariants.{Ascii, Binary}
use Rattle.gi_aiger.specs.declared.head.Head.{Head}
use Rattle.gi_aiger.specs.declared.row.Section.{Section}
use Rattle.gi_aiger.specs.declared.row.Row.{Row}
use Rattle.gi_aiger.specs.declared.row.Row.TheVariants as rows
use Rattle.gi_aiger.specs.declared.taken.Taken.{Taken}
use Rattle.gi_aiger.specs.Fields.{numbers_of, with_own}
use Rattle.gi_aiger.specs.Lines.{bare}
use Rattle.gi_aiger.specs.Rows.{row_read, section_of, defined_by}
use Rattle.gi_aiger.specs.Marks.{missing}
use Rattle.gi_aiger.specs.Taking.{with_row, with_line, is_known, to_come, checked, add_by, add_row, add_line, then_row, room, left_out, own_latch, numbers_in}
use Rattle.gi_aiger.specs.Relation.{Spells, Says, leaves_out}
use Rattle.gi_aiger.proofs.Adding.{adds}
use Rattle.gi_aiger.proofs.Spelling.{InRange, Back, spelled_read, numbers_back}

-- what stands behind a right line
abbrev pub step : Form → Taken → Row → Taken
step Ascii t row = with_line t row
step Binary t row = with_row t row

-- a line is right, and says a row
pub record Right (h : Head) (t : Taken) (line : List ℕ) (row : Row) : Type 0 where
  pub says : Says h.form line row
  pub range : InRange h.max (room t) row
  pub own : left_out h.form (section_of row) (own_latch h t) ≡ leaves_out h.form row
  pub added : add_row h t row ≡ Ok (step h.form t row)

pub right_reads : (h : Head) (t : Taken) (line : List ℕ) (row : Row) → Right h t line row → add_line h t (section_of row) (bare line) ≡ Ok (step h.form t row)
right_reads h t line row r =
    let numbers : numbers_in h t (section_of row) (bare line) ≡ Some r.says.numbers = ap (λ (o : Option ℕ). with_own o (numbers_of (bare line))) r.own ∙ r.says.are in
    ap (λ (o : Option (List ℕ)). then_row (row_read h.max (room t) (section_of row) o) (add_row h t)) numbers
    ∙ ap (λ (o : Result Row AigCode). then_row o (add_row h t)) (spelled_read h.max (room t) row r.says.numbers r.says.spell r.range) ∙ r.added

-- and back
first : List ℕ → ℕ
first [] = 0
first (n ∷ ns) = n

own_front : (own : ℕ) (l : Latch) (ns ms : List ℕ) → ◌≡◌ {A = Option (List ℕ)} (Some (own ∷ ms)) (Some ns) → Spells (rows.Latch l) ns → own ≡ l.lit
unfolding first
own_front own l ns ms e s =
    let is : own ∷ ms ≡ ns = cc in
    elim s [ inl q ↦ ap first is ∙ ap first q | inr q ↦ ap first is ∙ ap first q.1 ]

own_is : (form : Form) (own : ℕ) (read : Option (List ℕ)) (ns : List ℕ) (row : Row) → with_own (left_out form (section_of row) own) read ≡ Some ns → Spells row ns → left_out form (section_of row) own ≡ leaves_out form row
own_is Ascii own read ns row e s = refl
own_is Binary own read ns (rows.Input l) e s = refl
own_is Binary own None ns (rows.Latch l) e s = absurd cc
own_is Binary own (Some ms) ns (rows.Latch l) e s = ap Some (own_front own l ns ms e s)
own_is Binary own read ns (rows.Out l) e s = refl
own_is Binary own read ns (rows.Bad l) e s = refl
own_is Binary own read ns (rows.Con l) e s = refl
own_is Binary own read ns (rows.Size n) e s = refl
own_is Binary own read ns (rows.Justice l) e s = refl
own_is Binary own read ns (rows.Fair l) e s = refl
own_is Binary own read ns (rows.Gate g) e s = refl

ok_is : {t u : Taken} → ◌≡◌ {A = Result Taken AigCode} (Ok t) (Ok u) → u ≡ t
ok_is e = cc

pub step_is : (h : Head) (t u : Taken) (row : Row) (form : Form) → add_by form h t row ≡ Ok u → u ≡ step form t row
step_is h t u row Ascii e = by_known (is_known (defined_by row) t.marks) e where
  by_check : (b : Bool) → cond b (Err Undefined) (Ok (with_line t row)) ≡ Ok u → u ≡ with_line t row
  by_check true e = absurd cc
  by_check false e = ok_is e

  by_known : (b : Bool) → cond b (Err Defined) (checked h (with_line t row)) ≡ Ok u → u ≡ with_line t row
  by_known true e = absurd cc
  by_known false e = by_check (nat_lt (to_come h (with_line t row)) (missing (with_line t row).marks)) e
step_is h t u row Binary e = ok_is e

abbrev pub IsRight : Head → Taken → Section → List ℕ → Taken → Type 0
IsRight h t s line u = (row : Row) × Right h t line row × (section_of row ≡ s) × (u ≡ step h.form t row)

pub line_right : (h : Head) (t u : Taken) (s : Section) (line : List ℕ) → add_line h t s (bare line) ≡ Ok u → IsRight h t s line u
line_right h t u s line e =
    let a = adds h t u s (bare line) e in
    by_numbers a.row a.added a.section (numbers_in h t s (bare line)) refl a.read where
      by_numbers : (row : Row) → add_row h t row ≡ Ok u → section_of row ≡ s → (o : Option (List ℕ)) → numbers_in h t s (bare line) ≡ o → row_read h.max (room t) s o ≡ Ok row → IsRight h t s line u
      by_numbers row added is None eo read = absurd cc
      by_numbers row added is (Some ns) eo read =
          let b : Back h.max (room t) ns row = numbers_back h.max (room t) s ns row read in
          let with_s : with_own (left_out h.form (section_of row) (own_latch h t)) (numbers_of (bare line)) ≡ Some ns = ap (λ (z : Section). numbers_in h t z (bare line)) is ∙ eo in
          let own = own_is h.form (own_latch h t) (numbers_of (bare line)) ns row with_s b.0 in
          let stepped : u ≡ step h.form t row = step_is h t u row h.form added in (
            row,
            record {
              says = record { numbers = ns; are = ap (λ (o : Option ℕ). with_own o (numbers_of (bare line))) (sym own) ∙ with_s; spell = b.0 };
              range = b.1;
              own = own;
              added = added ∙ ap Ok stepped;
            },
            is,
            stepped,
          )
