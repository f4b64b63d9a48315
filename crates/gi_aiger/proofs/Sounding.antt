-- The rows of a value.
use Rattle.std.proofs.Common.{◌≡◌, ℕ, ◌+◌, ◌*◌, ◌/◌, ◌≤◌, List, [], ◌∷◌, ◌++◌, length, map, Bool, true, false, cond, refl, ap, sym, ◌∙◌, subst, arith, length-append, append_assoc}
use Rattle.std.specs.Prelude.{sum, sum_by}
use Rattle.std.specs.List.{flat_map, AllByRecursion}
use Rattle.std.proofs.lemmas.Grind.{flat_map-append}
use Rattle.std.proofs.lemmas.List.{append-nil, map-append}
use Rattle.std.proofs.lemmas.List.Sums.{sum_by-cons, sum_by-append}
use Rattle.gi_aiger.specs.declared.aig.Aig.{Aig}
use Rattle.gi_aiger.specs.declared.head.Form.{Form}
use Rattle.gi_aiger.specs.declared.head.Form.TheVariants.{Ascii, Binary}
use Rattle.gi_aiger.specs.declared.row.Section.{Section}
use Rattle.gi_aiger.specs.declared.row.Section.TheVariants as sections
use Rattle.gi_aiger.specs.declared.row.Row.{Row}
use Rattle.gi_aiger.specs.declared.row.Row.TheVariants as rows
use Rattle.gi_aiger.specs.declared.taken.Taken.{Taken}
use Rattle.gi_aiger.specs.Rows.{literals_in, defined_by, variables_by, defined_variables}
use Rattle.gi_aiger.specs.Sections.{sections_of, behind}
use Rattle.gi_aiger.specs.Marks.{marked, marks_of}
use Rattle.gi_aiger.specs.Taking.{with_row, with_line}
use Rattle.gi_aiger.specs.Relation.{rows_at, rows_of, defining_literals, IsDefining}
use Rattle.gi_aiger.proofs.Takes.{marks_stay}
use Rattle.gi_aiger.proofs.Spelling.{InRange}
use Rattle.gi_aiger.proofs.Saying.{step}
use Rattle.gi_aiger.proofs.Putting.{takes}
use Rattle.gi_aiger.proofs.Knowing.{row_in, input_in, latch_in, gate_in, size_in}

-- lists
pub flat_flat : {A B C : Type 0} (g : B → List C) (f : A → List B) (xs : List A) → flat_map g (flat_map f xs) ≡ flat_map (λ x. flat_map g (f x)) xs
flat_flat g f [] = refl
flat_flat g f (x ∷ xs) = flat_map-append g (f x) (flat_map f xs) ∙ ap (λ ys. flat_map g (f x) ++ ys) (flat_flat g f xs)

pub flat_same : {A C : Type 0} (f g : A → List C) → ((x : A) → f x ≡ g x) → (xs : List A) → flat_map f xs ≡ flat_map g xs
flat_same f g e [] = refl
flat_same f g e (x ∷ xs) = ap (λ ys. ys ++ flat_map f xs) (e x) ∙ ap (λ ys. g x ++ ys) (flat_same f g e xs)

pub flat_none : {A B C : Type 0} (g : B → List C) (f : A → B) → ((a : A) → g (f a) ≡ []) → (xs : List A) → flat_map g (map f xs) ≡ []
flat_none g f e [] = refl
flat_none g f e (x ∷ xs) = ap (λ ys. ys ++ flat_map g (map f xs)) (e x) ∙ flat_none g f e xs

flat_each : {A B C : Type 0} (g : B → List C) (f : A → B) (k : A → C) → ((a : A) → g (f a) ≡ k a ∷ []) → (xs : List A) → flat_map g (map f xs) ≡ map k xs
flat_each g f k e [] = refl
flat_each g f k e (x ∷ xs) = ap (λ ys. ys ++ flat_map g (map f xs)) (e x) ∙ ap (λ ys. k x ∷ ys) (flat_each g f k e xs)

flat_self : {B C : Type 0} (g : B → List C) (f : C → B) → ((a : C) → g (f a) ≡ a ∷ []) → (xs : List C) → flat_map g (map f xs) ≡ xs
flat_self g f e [] = refl
flat_self g f e (x ∷ xs) = ap (λ ys. ys ++ flat_map g (map f xs)) (e x) ∙ ap (λ ys. x ∷ ys) (flat_self g f e xs)

pub sum_same : {A B : Type 0} (g : B → ℕ) (f : A → B) (n : ℕ) → ((a : A) → g (f a) ≡ n) → (xs : List A) → sum_by g (map f xs) ≡ n * length xs
sum_same g f n e [] = omega arith
sum_same g f n e (x ∷ xs) = omega (arith, sum_by-cons g (f x) (map f xs), e x, sum_same g f n e xs)

-- the literals that a row defines
abbrev pub defining_in : Row → List ℕ
defining_in (rows.Input l) = l ∷ []
defining_in (rows.Latch l) = l.lit ∷ []
defining_in (rows.Out l) = []
defining_in (rows.Bad l) = []
defining_in (rows.Con l) = []
defining_in (rows.Size n) = []
defining_in (rows.Justice l) = []
defining_in (rows.Fair l) = []
defining_in (rows.Gate g) = g.lhs ∷ []

abbrev pub defining_at : Aig → Section → List ℕ
defining_at v sections.Input = v.inputs
defining_at v sections.Latch = map (λ l. l.lit) v.latches
defining_at v sections.Out = []
defining_at v sections.Bad = []
defining_at v sections.Con = []
defining_at v sections.Size = []
defining_at v sections.Justice = []
defining_at v sections.Fair = []
defining_at v sections.Gate = map (λ g. g.lhs) v.gates

pub defining_section : (v : Aig) (s : Section) → flat_map defining_in (rows_at v s) ≡ defining_at v s
defining_section v sections.Input = flat_self defining_in rows.Input (λ l. refl) v.inputs
defining_section v sections.Latch = flat_each defining_in rows.Latch (λ l. l.lit) (λ l. refl) v.latches
defining_section v sections.Out = flat_none defining_in rows.Out (λ l. refl) v.outs
defining_section v sections.Bad = flat_none defining_in rows.Bad (λ l. refl) v.bads
defining_section v sections.Con = flat_none defining_in rows.Con (λ l. refl) v.cons
defining_section v sections.Size = flat_none defining_in (λ p. rows.Size (length p)) (λ p. refl) v.justice
defining_section v sections.Justice = flat_none defining_in rows.Justice (λ l. refl) (flat_map (λ p. p) v.justice)
defining_section v sections.Fair = flat_none defining_in rows.Fair (λ l. refl) v.fair
defining_section v sections.Gate = flat_each defining_in rows.Gate (λ g. g.lhs) (λ g. refl) v.gates

pub defining_all : (v : Aig) → flat_map defining_in (rows_of v) ≡ defining_literals v
defining_all v =
    flat_flat defining_in (rows_at v) (sections_of Ascii) ∙ flat_same (λ s. flat_map defining_in (rows_at v s)) (defining_at v) (defining_section v) (sections_of Ascii)
    ∙ ap (λ (xs : List ℕ). v.inputs ++ (map (λ l. l.lit) v.latches ++ xs)) (append-nil (map (λ g. g.lhs) v.gates)) ∙ sym (append_assoc v.inputs (map (λ l. l.lit) v.latches) (map (λ g. g.lhs) v.gates))

one_variable : (r : Row) → variables_by (defined_by r) ≡ map (λ l. l / 2) (defining_in r)
one_variable (rows.Input l) = refl
one_variable (rows.Latch l) = refl
one_variable (rows.Out l) = refl
one_variable (rows.Bad l) = refl
one_variable (rows.Con l) = refl
one_variable (rows.Size n) = refl
one_variable (rows.Justice l) = refl
one_variable (rows.Fair l) = refl
one_variable (rows.Gate g) = refl

pub variables_are : (rs : List Row) → defined_variables rs ≡ map (λ l. l / 2) (flat_map defining_in rs)
variables_are [] = refl
variables_are (r ∷ rs) = ap (λ (xs : List ℕ). xs ++ defined_variables rs) (one_variable r) ∙ ap (λ (xs : List ℕ). map (λ l. l / 2) (defining_in r) ++ xs) (variables_are rs) ∙ sym (map-append (λ l. l / 2) (defining_in r) (flat_map defining_in rs))

-- counts over rows
sum_sizes : (i l g : ℕ) (z : Bool) (js : List (List ℕ)) → sum_by (row_in i l g z) (map (λ p. rows.Size (length p)) js) ≡ cond z (length (flat_map (λ p. p) js)) 0
sum_sizes i l g true [] = refl
sum_sizes i l g false [] = refl
sum_sizes i l g true (j ∷ js) = omega (arith, sum_by-cons (row_in i l g true) (rows.Size (length j)) (map (λ p. rows.Size (length p)) js), sum_sizes i l g true js, length-append j (flat_map (λ p. p) js))
sum_sizes i l g false (j ∷ js) = omega (arith, sum_by-cons (row_in i l g false) (rows.Size (length j)) (map (λ p. rows.Size (length p)) js), sum_sizes i l g false js)

pub sum_lengths : (js : List (List ℕ)) → sum (map length js) ≡ length (flat_map (λ p. p) js)
sum_lengths [] = refl
sum_lengths (j ∷ js) = omega (arith, sum_by-cons (λ x. x) (length j) (map length js), sum_lengths js, length-append j (flat_map (λ p. p) js))

abbrev pub counts : ℕ → ℕ → ℕ → Bool → Aig → Section → ℕ
counts i l g z v sections.Input = i * length v.inputs
counts i l g z v sections.Latch = l * length v.latches
counts i l g z v sections.Out = 0
counts i l g z v sections.Bad = 0
counts i l g z v sections.Con = 0
counts i l g z v sections.Size = cond z (length (flat_map (λ p. p) v.justice)) 0
counts i l g z v sections.Justice = 0
counts i l g z v sections.Fair = 0
counts i l g z v sections.Gate = g * length v.gates

section_counts : (i l g : ℕ) (z : Bool) (v : Aig) (s : Section) → sum_by (row_in i l g z) (rows_at v s) ≡ counts i l g z v s
section_counts i l g z v sections.Input = sum_same (row_in i l g z) rows.Input i (λ x. refl) v.inputs
section_counts i l g z v sections.Latch = sum_same (row_in i l g z) rows.Latch l (λ x. refl) v.latches
section_counts i l g z v sections.Out = omega (arith, sum_same (row_in i l g z) rows.Out 0 (λ x. refl) v.outs)
section_counts i l g z v sections.Bad = omega (arith, sum_same (row_in i l g z) rows.Bad 0 (λ x. refl) v.bads)
section_counts i l g z v sections.Con = omega (arith, sum_same (row_in i l g z) rows.Con 0 (λ x. refl) v.cons)
section_counts i l g z v sections.Size = sum_sizes i l g z v.justice
section_counts i l g z v sections.Justice = omega (arith, sum_same (row_in i l g z) rows.Justice 0 (λ x. refl) (flat_map (λ p. p) v.justice))
section_counts i l g z v sections.Fair = omega (arith, sum_same (row_in i l g z) rows.Fair 0 (λ x. refl) v.fair)
section_counts i l g z v sections.Gate = sum_same (row_in i l g z) rows.Gate g (λ x. refl) v.gates

pub rows_count : (i l g : ℕ) (z : Bool) (v : Aig) (ss : List Section) → sum_by (row_in i l g z) (flat_map (rows_at v) ss) ≡ sum_by (counts i l g z v) ss
rows_count i l g z v [] = refl
rows_count i l g z v (s ∷ ss) = omega (arith, sum_by-append (row_in i l g z) (rows_at v s) (flat_map (rows_at v) ss), sum_by-cons (counts i l g z v) s ss, section_counts i l g z v s, rows_count i l g z v ss)

pub latches_all : (v : Aig) → sum_by latch_in (rows_of v) ≡ length v.latches
latches_all v = rows_count 0 1 0 false v (sections_of Ascii) ∙ (let s : sum_by (counts 0 1 0 false v) (sections_of Ascii) ≡ length v.latches = omega arith in s)

pub gates_all : (v : Aig) → sum_by gate_in (rows_of v) ≡ length v.gates
gates_all v = rows_count 0 0 1 false v (sections_of Ascii) ∙ (let s : sum_by (counts 0 0 1 false v) (sections_of Ascii) ≡ length v.gates = omega arith in s)

pub sizes_all : (v : Aig) → sum_by size_in (rows_of v) ≡ length (flat_map (λ p. p) v.justice)
sizes_all v = rows_count 0 0 0 true v (sections_of Ascii) ∙ (let s : sum_by (counts 0 0 0 true v) (sections_of Ascii) ≡ length (flat_map (λ p. p) v.justice) = omega arith in s)

-- behind the inputs
abbrev pub others_of : Aig → List Row
others_of v = flat_map (rows_at v) (behind Ascii sections.Input)

pub others_plain : (v : Aig) → sum_by input_in (others_of v) ≡ 0
others_plain v = rows_count 1 0 0 false v (behind Ascii sections.Input) ∙ (let s : sum_by (counts 1 0 0 false v) (behind Ascii sections.Input) ≡ 0 = omega arith in s)

-- what rows add to lists
measured : (form : Form) (f : Taken → ℕ) (g : Row → ℕ) → ((t : Taken) (r : Row) → f (step form t r) ≡ f t + g r) → (t : Taken) (rs : List Row) → f (takes form t rs) ≡ f t + sum_by g rs
measured form f g e t [] = omega arith
measured form f g e t (r ∷ rs) = omega (arith, measured form f g e (step form t r) rs, e t r, sum_by-cons g r rs)

abbrev Adds : Taken → Taken → Row → Type 0
Adds t u r = (length u.latches ≡ length t.latches + latch_in r) × (length u.gates ≡ length t.gates + gate_in r) × (u.total ≡ t.total + size_in r)

row_adds : (t : Taken) (r : Row) → Adds t (with_row t r) r
row_adds t (rows.Input l) = (omega arith, omega arith, omega arith)
row_adds t (rows.Latch l) = (length-append t.latches (l ∷ []), omega arith, omega arith)
row_adds t (rows.Out l) = (omega arith, omega arith, omega arith)
row_adds t (rows.Bad l) = (omega arith, omega arith, omega arith)
row_adds t (rows.Con l) = (omega arith, omega arith, omega arith)
row_adds t (rows.Size n) = (omega arith, omega arith, refl)
row_adds t (rows.Justice l) = (omega arith, omega arith, omega arith)
row_adds t (rows.Fair l) = (omega arith, omega arith, omega arith)
row_adds t (rows.Gate g) = (omega arith, length-append t.gates (g ∷ []), omega arith)

step_adds : (form : Form) (t : Taken) (r : Row) → Adds t (step form t r) r
step_adds Ascii t r = row_adds (record t { marks = marked r t.marks }) r
step_adds Binary t r = row_adds t r

pub latches_takes : (form : Form) (t : Taken) (rs : List Row) → length (takes form t rs).latches ≡ length t.latches + sum_by latch_in rs
latches_takes form t rs = measured form (λ u. length u.latches) latch_in (λ u r. (step_adds form u r).0) t rs

pub gates_takes : (form : Form) (t : Taken) (rs : List Row) → length (takes form t rs).gates ≡ length t.gates + sum_by gate_in rs
gates_takes form t rs = measured form (λ u. length u.gates) gate_in (λ u r. (step_adds form u r).1) t rs

pub sizes_takes : (form : Form) (t : Taken) (rs : List Row) → (takes form t rs).total ≡ t.total + sum_by size_in rs
sizes_takes form t rs = measured form (λ u. u.total) size_in (λ u r. (step_adds form u r).2) t rs

pub marks_takes : (t : Taken) (rs : List Row) → (takes Ascii t rs).marks ≡ marks_of rs t.marks
marks_takes t [] = refl
marks_takes t (r ∷ rs) = marks_takes (with_line t r) rs ∙ ap (marks_of rs) (marks_stay (record t { marks = marked r t.marks }) r)

-- what holds of each in parts
pub each_left : {X : Type 0} (P : X → Type 0) (xs ys : List X) → AllByRecursion P (xs ++ ys) → AllByRecursion P xs
each_left P [] ys all = tt
each_left P (x ∷ xs) ys all = (all.0, each_left P xs ys all.1)

pub each_right : {X : Type 0} (P : X → Type 0) (xs ys : List X) → AllByRecursion P (xs ++ ys) → AllByRecursion P ys
each_right P [] ys all = all
each_right P (x ∷ xs) ys all = each_right P xs ys all.1

pub each_join : {X : Type 0} (P : X → Type 0) (xs ys : List X) → AllByRecursion P xs → AllByRecursion P ys → AllByRecursion P (xs ++ ys)
each_join P [] ys a b = b
each_join P (x ∷ xs) ys a b = (a.0, each_join P xs ys a.1 b)

pub each_at : {X : Type 0} (P : X → Type 0) (f : Row → List X) (before : List Row) (r : Row) (later : List Row) → AllByRecursion P (flat_map f (before ++ r ∷ later)) → AllByRecursion P (f r)
each_at P f before r later all = each_left P (f r) (flat_map f later) (each_right P (flat_map f before) (f r ++ flat_map f later) (subst (AllByRecursion P) (flat_map-append f before (r ∷ later)) all))

abbrev pub Low : ℕ → ℕ → Type 0
Low max l = l ≤ 2 * max + 1

-- a row in range
pub in_range : (max room : ℕ) (r : Row) → AllByRecursion (IsDefining max) (defining_in r) → AllByRecursion (Low max) (literals_in r) → size_in r ≤ room → InRange max room r
in_range max room (rows.Input l) d u s = d.0
in_range max room (rows.Latch l) d u s = (d.0, u.0)
in_range max room (rows.Out l) d u s = u.0
in_range max room (rows.Bad l) d u s = u.0
in_range max room (rows.Con l) d u s = u.0
in_range max room (rows.Size n) d u s = s
in_range max room (rows.Justice l) d u s = u.0
in_range max room (rows.Fair l) d u s = u.0
in_range max room (rows.Gate g) d u s = (d.0, u.0, u.1.0)

pub defines_well : (max room : ℕ) (r : Row) → InRange max room r → AllByRecursion (IsDefining max) (defining_in r)
defines_well max room (rows.Input l) is = (is, tt)
defines_well max room (rows.Latch l) is = (is.0, tt)
defines_well max room (rows.Out l) is = tt
defines_well max room (rows.Bad l) is = tt
defines_well max room (rows.Con l) is = tt
defines_well max room (rows.Size n) is = tt
defines_well max room (rows.Justice l) is = tt
defines_well max room (rows.Fair l) is = tt
defines_well max room (rows.Gate g) is = (is.0, tt)

pub uses_well : (max room : ℕ) (r : Row) → InRange max room r → AllByRecursion (Low max) (literals_in r)
uses_well max room (rows.Input l) is = tt
uses_well max room (rows.Latch l) is = (is.1, tt)
uses_well max room (rows.Out l) is = (is, tt)
uses_well max room (rows.Bad l) is = (is, tt)
uses_well max room (rows.Con l) is = (is, tt)
uses_well max room (rows.Size n) is = tt
uses_well max room (rows.Justice l) is = (is, tt)
uses_well max room (rows.Fair l) is = (is, tt)
uses_well max room (rows.Gate g) is = (is.1, (is.2, tt))
