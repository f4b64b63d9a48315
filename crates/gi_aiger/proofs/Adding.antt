-- What a line of a section adds.
use Rattle.std.proofs.Common.{◌≡◌, ℕ, suc, ◌+◌, ◌≤◌, nat_lt, List, [], ◌∷◌, length, get_or, Bool, true, false, cond, Option, Some, None, Result, Ok, Err, refl, ap, sym, ◌∙◌, subst, arith, length-append}
use Rattle.gi_aiger.specs.declared.fault.AigCode.{AigCode}
use Rattle.gi_aiger.specs.declared.fault.AigCode.TheVariants.{Defined, Undefined, Count}
use Rattle.gi_aiger.specs.declared.aig.Reset.{Reset}
use Rattle.gi_aiger.specs.declared.head.Form.{Form}
use Rattle.gi_aiger.specs.declared.head.Form.TheVariants.{Ascii, Binary}
use Rattle.gi_aiger.specs.declared.head.Head.{Head}
use Rattle.gi_aiger.specs.declared.mark.Mark.{Mark}
use Rattle.gi_aiger.specs.declared.row.Section.{Section}
use Rattle.gi_aiger.specs.declared.row.Section.TheVariants as sections
use Rattle.gi_aiger.specs.declared.row.Row.{Row}
use Rattle.gi_aiger.specs.declared.row.Row.TheVariants as rows
use Rattle.gi_aiger.specs.declared.taken.Taken.{Taken}
use Rattle.gi_aiger.specs.Rows.{has_row, literal_of, defining_of, reset_of, latch_of, gate_of, row_with, size_of, row_of, row_read, section_of, defined_by}
use Rattle.gi_aiger.specs.Marks.{marked, missing}
use Rattle.gi_aiger.specs.Taking.{with_row, with_line, is_known, to_come, checked, add_by, add_row, add_line, then_row, room, numbers_in}
use Rattle.gi_aiger.specs.Sections.{left_in}
use Rattle.gi_aiger.specs.Files.{gates_line}

-- a row that is read is of its section
abbrev pub IsOf : Section → Result Row AigCode → Type 0
IsOf s (Ok row) = section_of row ≡ s
IsOf s (Err c) = Unit {0}

with_of : (s : Section) (row : ℕ → Row) → ((n : ℕ) → section_of (row n) ≡ s) → (r : Result ℕ AigCode) → IsOf s (row_with row r)
with_of s row h (Ok n) = h n
with_of s row h (Err c) = tt

latch_is : (own next : Result ℕ AigCode) (reset : Result Reset AigCode) → IsOf sections.Latch (latch_of own next reset)
latch_is (Ok l) (Ok n) (Ok r) = refl
latch_is (Ok l) (Ok n) (Err c) = tt
latch_is (Ok l) (Err c) reset = tt
latch_is (Err c) next reset = tt

gate_is : (lhs rhs0 rhs1 : Result ℕ AigCode) → IsOf sections.Gate (gate_of lhs rhs0 rhs1)
gate_is (Ok l) (Ok a) (Ok b) = refl
gate_is (Ok l) (Ok a) (Err c) = tt
gate_is (Ok l) (Err c) rhs1 = tt
gate_is (Err c) rhs0 rhs1 = tt

row_is : (max room : ℕ) (s : Section) (ns : List ℕ) → IsOf s (row_of max room s ns)
row_is max room sections.Input ns = with_of sections.Input rows.Input (λ n. refl) (defining_of max (get_or ns 0 0))
row_is max room sections.Latch ns = latch_is (defining_of max (get_or ns 0 0)) (literal_of max (get_or ns 1 0)) (reset_of (get_or ns 0 0) (get_or ns 2 0))
row_is max room sections.Out ns = with_of sections.Out rows.Out (λ n. refl) (literal_of max (get_or ns 0 0))
row_is max room sections.Bad ns = with_of sections.Bad rows.Bad (λ n. refl) (literal_of max (get_or ns 0 0))
row_is max room sections.Con ns = with_of sections.Con rows.Con (λ n. refl) (literal_of max (get_or ns 0 0))
row_is max room sections.Size ns = with_of sections.Size rows.Size (λ n. refl) (size_of room (get_or ns 0 0))
row_is max room sections.Justice ns = with_of sections.Justice rows.Justice (λ n. refl) (literal_of max (get_or ns 0 0))
row_is max room sections.Fair ns = with_of sections.Fair rows.Fair (λ n. refl) (literal_of max (get_or ns 0 0))
row_is max room sections.Gate ns = gate_is (defining_of max (get_or ns 0 0)) (literal_of max (get_or ns 1 0)) (literal_of max (get_or ns 2 0))

pub read_is : (max room : ℕ) (s : Section) (read : Option (List ℕ)) → IsOf s (row_read max room s read)
read_is max room s None = tt
read_is max room s (Some ns) = by_test (has_row s (length ns)) where
  by_test : (b : Bool) → IsOf s (cond b (row_of max room s ns) (Err Count))
  by_test true = row_is max room s ns
  by_test false = tt

-- a line that is right adds its row
pub record Adds (h : Head) (t u : Taken) (s : Section) (line : List ℕ) : Type 0 where
  pub row : Row
  pub read : row_read h.max (room t) s (numbers_in h t s line) ≡ Ok row
  pub added : add_row h t row ≡ Ok u
  pub section : section_of row ≡ s

pub adds : (h : Head) (t u : Taken) (s : Section) (line : List ℕ) → add_line h t s line ≡ Ok u → Adds h t u s line
adds h t u s line e = by_row (row_read h.max (room t) s (numbers_in h t s line)) refl e where
  by_row : (r : Result Row AigCode) → row_read h.max (room t) s (numbers_in h t s line) ≡ r → then_row r (add_row h t) ≡ Ok u → Adds h t u s line
  by_row (Ok row) is e = record { row = row; read = is; added = e; section = subst (IsOf s) is (read_is h.max (room t) s (numbers_in h t s line)) }
  by_row (Err c) is e = absurd cc

-- and it may change the marks
pub record Rowed (t u : Taken) (row : Row) : Type 0 where
  pub marks : List Mark
  pub is : u ≡ with_row (record t { marks = marks }) row

ok_is : {t u : Taken} → ◌≡◌ {A = Result Taken AigCode} (Ok t) (Ok u) → u ≡ t
ok_is e = cc

pub added_is : (h : Head) (t u : Taken) (row : Row) → add_row h t row ≡ Ok u → Rowed t u row
added_is h t u row e = by_form h.form e where
  by_check : (b : Bool) → cond b (Err Undefined) (Ok (with_line t row)) ≡ Ok u → Rowed t u row
  by_check true e = absurd cc
  by_check false e = record { marks = marked row t.marks; is = ok_is e }

  by_known : (b : Bool) → cond b (Err Defined) (checked h (with_line t row)) ≡ Ok u → Rowed t u row
  by_known true e = absurd cc
  by_known false e = by_check (nat_lt (to_come h (with_line t row)) (missing (with_line t row).marks)) e

  by_form : (f : Form) → add_by f h t row ≡ Ok u → Rowed t u row
  by_form Ascii e = by_known (is_known (defined_by row) t.marks) e
  by_form Binary e = record { marks = t.marks; is = ok_is e }

-- one line less is to come
less : (h : Head) (t : Taken) (row : Row) (n : ℕ) → left_in h t (section_of row) ≡ suc n → left_in h (with_row t row) (section_of row) ≡ n
less h t (rows.Input l) n e = omega (arith, e, length-append t.inputs (l ∷ []))
less h t (rows.Latch l) n e = omega (arith, e, length-append t.latches (l ∷ []))
less h t (rows.Out l) n e = omega (arith, e, length-append t.outs (l ∷ []))
less h t (rows.Bad l) n e = omega (arith, e, length-append t.bads (l ∷ []))
less h t (rows.Con l) n e = omega (arith, e, length-append t.cons (l ∷ []))
less h t (rows.Size m) n e = omega (arith, e, length-append t.sizes (m ∷ []))
less h t (rows.Justice l) n e = omega (arith, e, length-append t.justice (l ∷ []))
less h t (rows.Fair l) n e = omega (arith, e, length-append t.fair (l ∷ []))
less h t (rows.Gate g) n e = omega (arith, e, length-append t.gates (g ∷ []))

-- other marks leave as many lines to come
marks_no : (h : Head) (t : Taken) (ms : List Mark) (s : Section) → left_in h (record t { marks = ms }) s ≡ left_in h t s
marks_no h t ms sections.Input = refl
marks_no h t ms sections.Latch = refl
marks_no h t ms sections.Out = refl
marks_no h t ms sections.Bad = refl
marks_no h t ms sections.Con = refl
marks_no h t ms sections.Size = refl
marks_no h t ms sections.Justice = refl
marks_no h t ms sections.Fair = refl
marks_no h t ms sections.Gate = refl

pub one_less : (h : Head) (t u : Taken) (s : Section) (line : List ℕ) (n : ℕ) → add_line h t s line ≡ Ok u → left_in h t s ≡ suc n → left_in h u s ≡ n
one_less h t u s line n e left =
    let a = adds h t u s line e in
    let r = added_is h t u a.row a.added in
    let before : left_in h (record t { marks = r.marks }) (section_of a.row) ≡ suc n = ap (left_in h (record t { marks = r.marks })) a.section ∙ marks_no h t r.marks s ∙ left in
    ap (left_in h u) (sym a.section) ∙ ap (λ (v : Taken). left_in h v (section_of a.row)) r.is ∙ less h (record t { marks = r.marks }) a.row n before

-- a line adds one to its section
row_counts : (t : Taken) (r : Row) → (gates_line (with_row t r) + length (with_row t r).gates ≡ gates_line t + length t.gates + 1) × (gates_line t ≤ gates_line (with_row t r))
row_counts t (rows.Input l) = (omega (arith, length-append t.inputs (l ∷ [])), omega (arith, length-append t.inputs (l ∷ [])))
row_counts t (rows.Latch l) = (omega (arith, length-append t.latches (l ∷ [])), omega (arith, length-append t.latches (l ∷ [])))
row_counts t (rows.Out l) = (omega (arith, length-append t.outs (l ∷ [])), omega (arith, length-append t.outs (l ∷ [])))
row_counts t (rows.Bad l) = (omega (arith, length-append t.bads (l ∷ [])), omega (arith, length-append t.bads (l ∷ [])))
row_counts t (rows.Con l) = (omega (arith, length-append t.cons (l ∷ [])), omega (arith, length-append t.cons (l ∷ [])))
row_counts t (rows.Size n) = (omega (arith, length-append t.sizes (n ∷ [])), omega (arith, length-append t.sizes (n ∷ [])))
row_counts t (rows.Justice l) = (omega (arith, length-append t.justice (l ∷ [])), omega (arith, length-append t.justice (l ∷ [])))
row_counts t (rows.Fair l) = (omega (arith, length-append t.fair (l ∷ [])), omega (arith, length-append t.fair (l ∷ [])))
row_counts t (rows.Gate g) = (omega (arith, length-append t.gates (g ∷ [])), omega arith)

pub line_counts : (h : Head) (t u : Taken) (s : Section) (line : List ℕ) → add_line h t s line ≡ Ok u → (gates_line u + length u.gates ≡ gates_line t + length t.gates + 1) × (gates_line t ≤ gates_line u)
line_counts h t u s line e =
    let a = adds h t u s line e in
    let r = added_is h t u a.row a.added in
    subst (λ (v : Taken). (gates_line v + length v.gates ≡ gates_line t + length t.gates + 1) × (gates_line t ≤ gates_line v)) (sym r.is) (row_counts (record t { marks = r.marks }) a.row)

-- lines that are no gates leave the gates
unfoldable pub is_gate : Section → Bool
is_gate sections.Input = false
is_gate sections.Latch = false
is_gate sections.Out = false
is_gate sections.Bad = false
is_gate sections.Con = false
is_gate sections.Size = false
is_gate sections.Justice = false
is_gate sections.Fair = false
is_gate sections.Gate = true

row_same : (t : Taken) (r : Row) → is_gate (section_of r) ≡ false → (with_row t r).gates ≡ t.gates
unfolding is_gate
row_same t (rows.Input l) plain = refl
row_same t (rows.Latch l) plain = refl
row_same t (rows.Out l) plain = refl
row_same t (rows.Bad l) plain = refl
row_same t (rows.Con l) plain = refl
row_same t (rows.Size n) plain = refl
row_same t (rows.Justice l) plain = refl
row_same t (rows.Fair l) plain = refl
row_same t (rows.Gate g) plain = absurd cc

pub line_same : (h : Head) (t u : Taken) (s : Section) (line : List ℕ) → is_gate s ≡ false → add_line h t s line ≡ Ok u → u.gates ≡ t.gates
line_same h t u s line plain e =
    let a = adds h t u s line e in
    let r = added_is h t u a.row a.added in
    ap (λ (v : Taken). v.gates) r.is ∙ row_same (record t { marks = r.marks }) a.row (ap is_gate a.section ∙ plain)
