-- Marks tell which variables lines define, and which they use.
use Rattle.std.proofs.Common.{◌≡◌, ◌≢◌, ℕ, zero, suc, ◌+◌, ◌/◌, ◌<◌, ◌≤◌, List, [], ◌∷◌, ◌++◌, length, map, get_or, Bool, true, false, not, cond, Option, Some, None, ◌⊎◌, inl, inr, refl, ap, sym, ◌∙◌, subst, arith, length-append, append_assoc}
use Rattle.std.specs.Prelude.{◌==◌, Contains, sum_by}
use Rattle.std.specs.List.{flat_map}
use Rattle.std.proofs.lemmas.List.Sums.{sum_by-cons, sum_by-append}
use Rattle.std.proofs.lemmas.List.Elements.{Contains-append_left, Contains-append_right, Contains-append_cases}
use Rattle.std.proofs.lemmas.Bool.Decides.{eqb_tells}
use Rattle.gi_aiger.specs.declared.mark.Mark.{Mark}
use Rattle.gi_aiger.specs.declared.mark.Mark.TheVariants.{Fresh, Used, Defined}
use Rattle.gi_aiger.specs.declared.row.Row.{Row}
use Rattle.gi_aiger.specs.declared.row.Row.TheVariants as rows
use Rattle.gi_aiger.specs.Rows.{uses_of, literals_in, defined_by, variables_by, defined_variables, IsClosed}
use Rattle.gi_aiger.specs.Laws.{UsedIsUndefined}
use Rattle.gi_aiger.specs.Marks.{is_fresh, missing, mark_at, with_mark, used, used_literal, all_used, defined, marked, marks_of}
use Rattle.gi_aiger.specs.Taking.{is_defined, is_known}
use Rattle.gi_aiger.specs.Relation.{AreOnce}
use Rattle.gi_aiger.proofs.Marking.{weight, variables, at_same, at_other, missing_with, falls, marks-append, rows_keep, rows_define, rows_was}

-- what is marked as defined was so, or these lines define it
used_def : (l v : ℕ) (ms : List Mark) → mark_at (used_literal l ms) v ≡ Defined → mark_at ms v ≡ Defined
used_def l v ms h = by_zero (l / 2 == 0) h where
  by_fresh : (b : Bool) → mark_at (cond b (with_mark (l / 2) Used ms) ms) v ≡ Defined → mark_at ms v ≡ Defined
  by_fresh true h = elim (eqb_tells v (l / 2)) [
    | inl e ↦ let at_l = subst (λ (i : ℕ). mark_at (with_mark (l / 2) Used ms) i ≡ Defined) e.1 h in let same = at_same (l / 2) Used ms in absurd (other (mark_at (with_mark (l / 2) Used ms) (l / 2)) same at_l)
    | inr n ↦ sym (at_other (l / 2) v Used ms n.1) ∙ h
  ] where
    other : (m : Mark) → m ≡ Used → m ≡ Defined → ⊥
    other m a b = cc
  by_fresh false h = h

  by_zero : (b : Bool) → mark_at (cond b ms (used (l / 2) ms)) v ≡ Defined → mark_at ms v ≡ Defined
  by_zero true h = h
  by_zero false h = by_fresh (is_fresh (mark_at ms (l / 2))) h

all_def : (ls : List ℕ) (v : ℕ) (ms : List Mark) → mark_at (all_used ls ms) v ≡ Defined → mark_at ms v ≡ Defined
all_def [] v ms h = h
all_def (l ∷ ls) v ms h = used_def l v ms (all_def ls v (used_literal l ms) h)

one_def : (d : Option ℕ) (v : ℕ) (ms : List Mark) → mark_at (defined d ms) v ≡ Defined → (mark_at ms v ≡ Defined) ⊎ Contains (variables_by d) v
one_def None v ms h = inl h
one_def (Some w) v ms h = elim (eqb_tells v w) [ inl e ↦ inr (0, omega arith, sym e.1) | inr n ↦ inl (sym (at_other w v Defined ms n.1) ∙ h) ]

rows_def : (rs : List Row) (v : ℕ) (ms : List Mark) → mark_at (marks_of rs ms) v ≡ Defined → (mark_at ms v ≡ Defined) ⊎ Contains (defined_variables rs) v
rows_def [] v ms h = inl h
rows_def (r ∷ rs) v ms h = elim (rows_def rs v (marked r ms) h) [
  | inl d ↦ elim (one_def (defined_by r) v ms (all_def (literals_in r) v (defined (defined_by r) ms) d)) [ inl old ↦ inl old | inr new ↦ inr (Contains-append_left (variables_by (defined_by r)) (defined_variables rs) v new) ]
  | inr d ↦ inr (Contains-append_right (variables_by (defined_by r)) (defined_variables rs) v d)
]

pub only_defined : (rs : List Row) (v : ℕ) → mark_at (marks_of rs []) v ≡ Defined → Contains (defined_variables rs) v
only_defined rs v h = elim (rows_def rs v [] h) [ inl d ↦ absurd cc | inr d ↦ d ]

-- what is marked stays so
used_marked : (l v : ℕ) (ms : List Mark) → mark_at ms v ≢ Fresh → mark_at (used_literal l ms) v ≢ Fresh
used_marked l v ms h = by_zero (l / 2 == 0) where
  by_fresh : (b : Bool) → mark_at (cond b (with_mark (l / 2) Used ms) ms) v ≢ Fresh
  by_fresh true = elim (eqb_tells v (l / 2)) [
    | inl e ↦ subst (λ (i : ℕ). mark_at (with_mark (l / 2) Used ms) i ≢ Fresh) (sym e.1) (λ f. other (mark_at (with_mark (l / 2) Used ms) (l / 2)) (at_same (l / 2) Used ms) f)
    | inr n ↦ λ f. h (sym (at_other (l / 2) v Used ms n.1) ∙ f)
  ] where
    other : (m : Mark) → m ≡ Used → m ≡ Fresh → ⊥
    other m a b = cc
  by_fresh false = h

  by_zero : (b : Bool) → mark_at (cond b ms (used (l / 2) ms)) v ≢ Fresh
  by_zero true = h
  by_zero false = by_fresh (is_fresh (mark_at ms (l / 2)))

all_marked : (ls : List ℕ) (v : ℕ) (ms : List Mark) → mark_at ms v ≢ Fresh → mark_at (all_used ls ms) v ≢ Fresh
all_marked [] v ms h = h
all_marked (l ∷ ls) v ms h = all_marked ls v (used_literal l ms) (used_marked l v ms h)

defined_marked : (d : Option ℕ) (v : ℕ) (ms : List Mark) → mark_at ms v ≢ Fresh → mark_at (defined d ms) v ≢ Fresh
defined_marked None v ms h = h
defined_marked (Some w) v ms h = elim (eqb_tells v w) [
  | inl e ↦ subst (λ (i : ℕ). mark_at (with_mark w Defined ms) i ≢ Fresh) (sym e.1) (λ f. other (mark_at (with_mark w Defined ms) w) (at_same w Defined ms) f)
  | inr n ↦ λ f. h (sym (at_other w v Defined ms n.1) ∙ f)
] where
  other : (m : Mark) → m ≡ Defined → m ≡ Fresh → ⊥
  other m a b = cc

rows_marked : (rs : List Row) (v : ℕ) (ms : List Mark) → mark_at ms v ≢ Fresh → mark_at (marks_of rs ms) v ≢ Fresh
rows_marked [] v ms h = h
rows_marked (r ∷ rs) v ms h = rows_marked rs v (marked r ms) (all_marked (literals_in r) v (defined (defined_by r) ms) (defined_marked (defined_by r) v ms h))

-- what is used is marked
now_marked : (l : ℕ) (ms : List Mark) → (l / 2 == 0) ≡ false → mark_at (used_literal l ms) (l / 2) ≢ Fresh
now_marked l ms z = rw z (by_fresh (is_fresh (mark_at ms (l / 2))) refl) where
  fresh_true : (m : Mark) → is_fresh m ≡ false → m ≢ Fresh
  fresh_true Fresh f e = absurd cc
  fresh_true Used f e = absurd cc
  fresh_true Defined f e = absurd cc

  by_fresh : (b : Bool) → is_fresh (mark_at ms (l / 2)) ≡ b → mark_at (cond b (with_mark (l / 2) Used ms) ms) (l / 2) ≢ Fresh
  by_fresh true t f = other (mark_at (with_mark (l / 2) Used ms) (l / 2)) (at_same (l / 2) Used ms) f where
    other : (m : Mark) → m ≡ Used → m ≡ Fresh → ⊥
    other m a b = cc
  by_fresh false t f = fresh_true (mark_at ms (l / 2)) t f

uses_mark : (ls : List ℕ) (v : ℕ) (ms : List Mark) → Contains (variables ls) v → mark_at (all_used ls ms) v ≢ Fresh
uses_mark [] v ms h = absurd (omega (arith, h.1))
uses_mark (l ∷ ls) v ms h = by_zero (l / 2 == 0) refl h (λ (g : Contains (variables ls) v). uses_mark ls v (used_literal l ms) g) where
  by_zero : (b : Bool) → (l / 2 == 0) ≡ b → Contains (cond (not b) (l / 2 ∷ variables ls) (variables ls)) v → (Contains (variables ls) v → mark_at (all_used ls (used_literal l ms)) v ≢ Fresh) → mark_at (all_used ls (used_literal l ms)) v ≢ Fresh
  by_zero true z g ih = ih g
  by_zero false z (zero, lt, e) ih = all_marked ls v (used_literal l ms) (subst (λ (i : ℕ). mark_at (used_literal l ms) i ≢ Fresh) e (now_marked l ms z))
  by_zero false z (suc k, lt, e) ih = ih (k, omega arith, e)

pub rows_use : (rs : List Row) (v : ℕ) (ms : List Mark) → Contains (flat_map uses_of rs) v → mark_at (marks_of rs ms) v ≢ Fresh
rows_use [] v ms h = absurd (omega (arith, h.1))
rows_use (r ∷ rs) v ms h = elim (Contains-append_cases (uses_of r) (flat_map uses_of rs) v h) [
  | inl here ↦ rows_marked rs v (marked r ms) (uses_mark (literals_in r) v (defined (defined_by r) ms) here)
  | inr later ↦ rows_use rs v (marked r ms) later
]

-- where nothing is missing, nothing is used and undefined
pub none_missing : (ms : List Mark) (v : ℕ) → missing ms ≡ 0 → mark_at ms v ≢ Used
none_missing [] v none e = absurd cc
none_missing (m ∷ ms) zero none e = let one : weight m ≡ 1 = ap weight e in omega (arith, one, none, sum_by-cons weight m ms)
none_missing (m ∷ ms) (suc v) none e = none_missing ms v (omega (arith, none, sum_by-cons weight m ms)) e

-- so all that is used is defined
pub all_closed : (rs : List Row) → missing (marks_of rs []) ≡ 0 → IsClosed rs
all_closed rs none = λ k d lt. by_mark (get_or (flat_map uses_of rs) k d) (k, lt, same_at (flat_map uses_of rs) k d lt) where
  same_at : (xs : List ℕ) (k d : ℕ) → k < length xs → get_or xs k (get_or xs k d) ≡ get_or xs k d
  same_at [] k d lt = absurd (omega (arith, lt))
  same_at (x ∷ xs) zero d lt = refl
  same_at (x ∷ xs) (suc k) d lt = same_at xs k d (omega (arith, lt))

  is_one : (m : Mark) → m ≢ Fresh → m ≢ Used → m ≡ Defined
  is_one Fresh f u = absurd (f refl)
  is_one Used f u = absurd (u refl)
  is_one Defined f u = refl

  by_mark : (v : ℕ) → Contains (flat_map uses_of rs) v → Contains (defined_variables rs) v
  by_mark v h = only_defined rs v (is_one (mark_at (marks_of rs []) v) (rows_use rs v [] h) (none_missing (marks_of rs []) v none))

-- each line defines what none before it did
abbrev pub NoneKnown : List Mark → List Row → Type 0
NoneKnown ms [] = Unit {0}
NoneKnown ms (r ∷ rs) = (is_known (defined_by r) ms ≡ false) × NoneKnown (marked r ms) rs

known_not : (ms : List Mark) (rs : List Row) (v : ℕ) → NoneKnown ms rs → mark_at ms v ≡ Defined → Contains (defined_variables rs) v → ⊥
known_not ms [] v none d h = absurd (omega (arith, h.1))
known_not ms (r ∷ rs) v none d h = elim (Contains-append_cases (variables_by (defined_by r)) (defined_variables rs) v h) [
  | inl here ↦ by_own (defined_by r) none.0 here
  | inr later ↦ known_not (marked r ms) rs v none.1 (rows_keep (r ∷ []) v ms d) later
] where
  by_own : (o : Option ℕ) → is_known o ms ≡ false → Contains (variables_by o) v → ⊥
  by_own None f here = absurd (omega (arith, here.1))
  by_own (Some w) f (zero, lt, e) = let t : is_defined (mark_at ms w) ≡ true = ap is_defined (ap (mark_at ms) e ∙ d) in cc
  by_own (Some w) f (suc k, lt, e) = absurd (omega (arith, lt))

pub once_from : (ms : List Mark) (rs : List Row) → NoneKnown ms rs → AreOnce (defined_variables rs)
once_from ms [] none = tt
once_from ms (r ∷ rs) none = by_own (defined_by r) refl (once_from (marked r ms) rs none.1) where
  by_own : (o : Option ℕ) → defined_by r ≡ o → AreOnce (defined_variables rs) → AreOnce (variables_by o ++ defined_variables rs)
  by_own None is rest = rest
  by_own (Some w) is rest = (λ h. known_not (marked r ms) rs w none.1 (rows_define (r ∷ []) w ms (subst (λ (o : Option ℕ). Contains (variables_by o ++ []) w) (sym is) (0, omega arith, refl))) h, rest)

-- and back
pub variables-append : (rs qs : List Row) → defined_variables (rs ++ qs) ≡ defined_variables rs ++ defined_variables qs
variables-append [] qs = refl
variables-append (r ∷ rs) qs = ap (λ (xs : List ℕ). variables_by (defined_by r) ++ xs) (variables-append rs qs) ∙ sym (append_assoc (variables_by (defined_by r)) (defined_variables rs) (defined_variables qs))

once_apart : (xs : List ℕ) (y : ℕ) (zs : List ℕ) → AreOnce (xs ++ y ∷ zs) → Contains xs y → ⊥
once_apart [] y zs once h = absurd (omega (arith, h.1))
once_apart (x ∷ xs) y zs once (zero, lt, e) = once.0 (subst (Contains (xs ++ y ∷ zs)) (sym e) (Contains-append_right xs (y ∷ zs) y (0, omega arith, refl)))
once_apart (x ∷ xs) y zs once (suc k, lt, e) = once_apart xs y zs once.1 (k, omega (arith, lt), e)

pub unknown : (before : List Row) (r : Row) (later : List Row) → AreOnce (defined_variables (before ++ r ∷ later)) → is_known (defined_by r) (marks_of before []) ≡ false
unknown before r later once = by_own (defined_by r) refl where
  not_defined : (m : Mark) → m ≢ Defined → is_defined m ≡ false
  not_defined Fresh ne = refl
  not_defined Used ne = refl
  not_defined Defined ne = absurd (ne refl)

  by_own : (o : Option ℕ) → defined_by r ≡ o → is_known o (marks_of before []) ≡ false
  by_own None is = refl
  by_own (Some w) is =
      let all : AreOnce (defined_variables before ++ w ∷ defined_variables later) = subst (λ (o : Option ℕ). AreOnce (defined_variables before ++ (variables_by o ++ defined_variables later))) is (subst AreOnce (variables-append before (r ∷ later)) once) in
      not_defined (mark_at (marks_of before []) w) (λ d. once_apart (defined_variables before) w (defined_variables later) all (only_defined before w d))

-- how much a row counts, where an input, a latch and a gate count this, and a size counts itself or nothing
abbrev pub row_in : ℕ → ℕ → ℕ → Bool → Row → ℕ
row_in i l g z (rows.Input x) = i
row_in i l g z (rows.Latch x) = l
row_in i l g z (rows.Out x) = 0
row_in i l g z (rows.Bad x) = 0
row_in i l g z (rows.Con x) = 0
row_in i l g z (rows.Size n) = cond z n 0
row_in i l g z (rows.Justice x) = 0
row_in i l g z (rows.Fair x) = 0
row_in i l g z (rows.Gate x) = g

-- how many inputs, latches and gates a row is, and how many justice literals it announces
abbrev pub input_in : Row → ℕ
input_in r = row_in 1 0 0 false r

abbrev pub latch_in : Row → ℕ
latch_in r = row_in 0 1 0 false r

abbrev pub gate_in : Row → ℕ
gate_in r = row_in 0 0 1 false r

abbrev pub size_in : Row → ℕ
size_in r = row_in 0 0 0 true r

defines_one : (r : Row) → length (variables_by (defined_by r)) ≡ input_in r + latch_in r + gate_in r
defines_one (rows.Input l) = refl
defines_one (rows.Latch l) = refl
defines_one (rows.Out l) = refl
defines_one (rows.Bad l) = refl
defines_one (rows.Con l) = refl
defines_one (rows.Size n) = refl
defines_one (rows.Justice l) = refl
defines_one (rows.Fair l) = refl
defines_one (rows.Gate g) = refl

pub define_all : (rs : List Row) → length (defined_variables rs) ≡ sum_by input_in rs + sum_by latch_in rs + sum_by gate_in rs
define_all [] = refl
define_all (r ∷ rs) = omega (arith, length-append (variables_by (defined_by r)) (defined_variables rs), defines_one r, define_all rs, sum_by-cons input_in r rs, sum_by-cons latch_in r rs, sum_by-cons gate_in r rs)

-- inputs use nothing
input_none : (l : ℕ) (ms : List Mark) → missing ms ≡ 0 → missing (marked (rows.Input l) ms) ≡ 0
input_none l ms none = omega (arith, none, missing_with (l / 2) Defined ms)

-- at each line no more is missing than is still to come
pub few_missing : (ins : List ℕ) (others done later : List Row) (ms : List Mark) → done ++ later ≡ map rows.Input ins ++ others → sum_by input_in others ≡ 0 → missing ms ≡ 0 → missing (marks_of (map rows.Input ins ++ others) ms) ≡ 0 → missing (marks_of done ms) ≤ sum_by latch_in later + sum_by gate_in later
few_missing [] others done later ms e plain none closed =
    let all : missing (marks_of later (marks_of done ms)) ≡ 0 = ap missing (sym (marks-append done later ms) ∙ ap (λ (rs : List Row). marks_of rs ms) e) ∙ closed in
    let some : sum_by input_in done + sum_by input_in later ≡ 0 = sym (sum_by-append input_in done later) ∙ ap (sum_by input_in) e ∙ plain in
    omega (arith, falls later (marks_of done ms), all, define_all later, some)
few_missing (i ∷ ins) others [] later ms e plain none closed = omega (arith, none)
few_missing (i ∷ ins) others (d ∷ done) later ms e plain none closed =
    let first : d ≡ rows.Input i = cc in
    let rest : done ++ later ≡ map rows.Input ins ++ others = cc in
    subst (λ (r : Row). missing (marks_of done (marked r ms)) ≤ sum_by latch_in later + sum_by gate_in later) (sym first) (few_missing ins others done later (marked (rows.Input i) ms) rest plain (input_none i ms none) closed)

-- what is marked as used is used and not defined
pub used_undefined : UsedIsUndefined
used_undefined lines v = (
  λ e. (
    elim (rows_was lines v [] e) [ inl old ↦ absurd cc | inr used ↦ used ],
    λ d. twice (mark_at (marks_of lines []) v) e (rows_define lines v [] d),
  ),
  λ p. by_mark (mark_at (marks_of lines []) v) refl (rows_use lines v [] p.0) p.1,
) where
  twice : (m : Mark) → m ≡ Used → m ≡ Defined → ⊥
  twice m a b = cc

  by_mark : (m : Mark) → mark_at (marks_of lines []) v ≡ m → m ≢ Fresh → (Contains (defined_variables lines) v → ⊥) → m ≡ Used
  by_mark Fresh is fresh undefined = absurd (fresh refl)
  by_mark Used is fresh undefined = refl
  by_mark Defined is fresh undefined = absurd (undefined (only_defined lines v is))
