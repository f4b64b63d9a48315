-- What sections of rows leave, section by section.
use Rattle.std.proofs.Common.{◌≡◌, ℕ, ◌+◌, List, [], ◌∷◌, ◌++◌, length, refl, ap, sym, ◌∙◌, append_assoc}
use Rattle.std.specs.Prelude.{sum, map}
use Rattle.std.proofs.lemmas.List.{append-nil}
use Rattle.std.proofs.lemmas.List.Sums.{sum_by_push}
use Rattle.gi_aiger.specs.declared.aig.AndGate.{AndGate}
use Rattle.gi_aiger.specs.declared.aig.Latch.{Latch}
use Rattle.gi_aiger.specs.declared.head.Form.{Form}
use Rattle.gi_aiger.specs.declared.head.Form.TheVariants.{Ascii, Binary}
use Rattle.gi_aiger.specs.declared.head.Head.{Head}
use Rattle.gi_aiger.specs.declared.mark.Mark.{Mark}
use Rattle.gi_aiger.specs.declared.row.Section.{Section}
use Rattle.gi_aiger.specs.declared.row.Section.TheVariants as sections
use Rattle.gi_aiger.specs.declared.row.Row.{Row}
use Rattle.gi_aiger.specs.declared.row.Row.TheVariants as rows
use Rattle.gi_aiger.specs.declared.taken.Taken.{Taken}
use Rattle.gi_aiger.specs.Marks.{marked, marks_of}
use Rattle.gi_aiger.specs.Sections.{left_in}
use Rattle.gi_aiger.proofs.Saying.{step}

-- what a line of a section tells
abbrev pub Item : Section → Type 0
Item sections.Input = ℕ
Item sections.Latch = Latch
Item sections.Out = ℕ
Item sections.Bad = ℕ
Item sections.Con = ℕ
Item sections.Size = ℕ
Item sections.Justice = ℕ
Item sections.Fair = ℕ
Item sections.Gate = AndGate

abbrev pub row_at : (s : Section) → Item s → Row
row_at sections.Input = rows.Input
row_at sections.Latch = rows.Latch
row_at sections.Out = rows.Out
row_at sections.Bad = rows.Bad
row_at sections.Con = rows.Con
row_at sections.Size = rows.Size
row_at sections.Justice = rows.Justice
row_at sections.Fair = rows.Fair
row_at sections.Gate = rows.Gate

abbrev sized : Taken → List ℕ → ℕ → List Mark → Taken
sized t ns n ms = record t { sizes = ns; total = n; marks = ms }

-- a section's list and the marks are these
abbrev pub put : (s : Section) → Taken → List (Item s) → List Mark → Taken
put sections.Input t xs ms = record t { inputs = xs; marks = ms }
put sections.Latch t xs ms = record t { latches = xs; marks = ms }
put sections.Out t xs ms = record t { outs = xs; marks = ms }
put sections.Bad t xs ms = record t { bads = xs; marks = ms }
put sections.Con t xs ms = record t { cons = xs; marks = ms }
put sections.Size t xs ms = sized t xs (sum xs) ms
put sections.Justice t xs ms = record t { justice = xs; marks = ms }
put sections.Fair t xs ms = record t { fair = xs; marks = ms }
put sections.Gate t xs ms = record t { gates = xs; marks = ms }

abbrev pub marks_by : Form → Row → List Mark → List Mark
marks_by Ascii row ms = marked row ms
marks_by Binary row ms = ms

abbrev pub marks_all : Form → List Row → List Mark → List Mark
marks_all Ascii rs ms = marks_of rs ms
marks_all Binary rs ms = ms

marks_step : (form : Form) (r : Row) (rs : List Row) (ms : List Mark) → marks_all form rs (marks_by form r ms) ≡ marks_all form (r ∷ rs) ms
marks_step Ascii r rs ms = refl
marks_step Binary r rs ms = refl

size_put : (form : Form) (t : Taken) (ns : List ℕ) (ms : List Mark) (n : ℕ) → step form (sized t ns (sum ns) ms) (rows.Size n) ≡ sized t (ns ++ n ∷ []) (sum ns + n) (marks_by form (rows.Size n) ms)
size_put Ascii t ns ms n = refl
size_put Binary t ns ms n = refl

-- one row more
step_put : (form : Form) (s : Section) (t : Taken) (xs : List (Item s)) (ms : List Mark) (a : Item s) → step form (put s t xs ms) (row_at s a) ≡ put s t (xs ++ a ∷ []) (marks_by form (row_at s a) ms)
step_put Ascii sections.Input t xs ms a = refl
step_put Ascii sections.Latch t xs ms a = refl
step_put Ascii sections.Out t xs ms a = refl
step_put Ascii sections.Bad t xs ms a = refl
step_put Ascii sections.Con t xs ms a = refl
step_put Ascii sections.Size t xs ms a = size_put Ascii t xs ms a ∙ ap (λ (n : ℕ). sized t (xs ++ a ∷ []) n (marked (rows.Size a) ms)) (sym (sum_by_push (λ x. x) xs a))
step_put Ascii sections.Justice t xs ms a = refl
step_put Ascii sections.Fair t xs ms a = refl
step_put Ascii sections.Gate t xs ms a = refl
step_put Binary sections.Input t xs ms a = refl
step_put Binary sections.Latch t xs ms a = refl
step_put Binary sections.Out t xs ms a = refl
step_put Binary sections.Bad t xs ms a = refl
step_put Binary sections.Con t xs ms a = refl
step_put Binary sections.Size t xs ms a = size_put Binary t xs ms a ∙ ap (λ (n : ℕ). sized t (xs ++ a ∷ []) n ms) (sym (sum_by_push (λ x. x) xs a))
step_put Binary sections.Justice t xs ms a = refl
step_put Binary sections.Fair t xs ms a = refl
step_put Binary sections.Gate t xs ms a = refl

-- what rows leave
abbrev pub takes : Form → Taken → List Row → Taken
takes form t [] = t
takes form t (r ∷ rs) = takes form (step form t r) rs

pub takes-append : (form : Form) (t : Taken) (rs qs : List Row) → takes form t (rs ++ qs) ≡ takes form (takes form t rs) qs
takes-append form t [] qs = refl
takes-append form t (r ∷ rs) qs = takes-append form (step form t r) rs qs

takes_put : (form : Form) (s : Section) (t : Taken) (xs : List (Item s)) (ms : List Mark) (bs : List (Item s)) → takes form (put s t xs ms) (map (row_at s) bs) ≡ put s t (xs ++ bs) (marks_all form (map (row_at s) bs) ms)
takes_put Ascii s t xs ms [] = ap (λ (ys : List (Item s)). put s t ys ms) (sym (append-nil xs))
takes_put Binary s t xs ms [] = ap (λ (ys : List (Item s)). put s t ys ms) (sym (append-nil xs))
takes_put form s t xs ms (a ∷ bs) =
    ap (λ (u : Taken). takes form u (map (row_at s) bs)) (step_put form s t xs ms a) ∙ takes_put form s t (xs ++ a ∷ []) (marks_by form (row_at s a) ms) bs
    ∙ ap (λ (ys : List (Item s)). put s t ys (marks_all form (map (row_at s) bs) (marks_by form (row_at s a) ms))) (append_assoc xs (a ∷ []) bs)
    ∙ ap (λ (ks : List Mark). put s t (xs ++ a ∷ bs) ks) (marks_step form (row_at s a) (map (row_at s) bs) ms)

-- what a section leaves
abbrev pub after : Form → (s : Section) → Taken → List (Item s) → Taken
after form s t xs = put s t xs (marks_all form (map (row_at s) xs) t.marks)

pub section_takes : (form : Form) (s : Section) (t : Taken) (xs : List (Item s)) → put s t [] t.marks ≡ t → takes form t (map (row_at s) xs) ≡ after form s t xs
section_takes form s t xs new = ap (λ (u : Taken). takes form u (map (row_at s) xs)) (sym new) ∙ takes_put form s t [] t.marks xs

-- lists for sections
abbrev pub Lists : List Section → Type 0
Lists [] = Unit {0}
Lists (s ∷ ss) = List (Item s) × Lists ss

abbrev pub rows_by : (ss : List Section) → Lists ss → List Row
rows_by [] L = []
rows_by (s ∷ ss) L = map (row_at s) L.0 ++ rows_by ss L.1

abbrev pub state_by : Form → (ss : List Section) → Taken → Lists ss → Taken
state_by form [] t L = t
state_by form (s ∷ ss) t L = state_by form ss (after form s t L.0) L.1

-- nothing of these sections is there
abbrev pub News : List Section → Taken → Type 0
News [] t = Unit {0}
News (s ∷ ss) t = (put s t [] t.marks ≡ t) × ((xs : List (Item s)) (ms : List Mark) → News ss (put s t xs ms))

pub state_takes : (form : Form) (ss : List Section) (t : Taken) (L : Lists ss) → News ss t → takes form t (rows_by ss L) ≡ state_by form ss t L
state_takes form [] t L new = refl
state_takes form (s ∷ ss) t L new =
    takes-append form t (map (row_at s) L.0) (rows_by ss L.1) ∙ ap (λ (u : Taken). takes form u (rows_by ss L.1)) (section_takes form s t L.0 new.0)
    ∙ state_takes form ss (after form s t L.0) L.1 (new.1 L.0 (marks_all form (map (row_at s) L.0) t.marks))

-- each list is as long as its section
abbrev pub Counts : Head → (ss : List Section) → Taken → Lists ss → Type 0
Counts h [] t L = Unit {0}
Counts h (s ∷ ss) t L = (length L.0 ≡ left_in h t s) × Counts h ss (after h.form s t L.0) L.1
