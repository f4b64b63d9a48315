-- Which variables the lines so far use and define, and that no more can be undefined than lines are to come that define one.
use Rattle.std.proofs.Common.{◌≡◌, ◌≢◌, ℕ, zero, suc, ◌+◌, ◌-◌, ◌/◌, ◌<◌, ◌≤◌, List, [], ◌∷◌, ◌++◌, length, map, get_or, Bool, true, false, not, cond, Option, Some, None, ◌⊎◌, inl, inr, refl, ap, sym, ◌∙◌, subst, arith, length-append}
use Rattle.std.specs.Prelude.{◌==◌, replicate, sum_by, Contains, All, filter}
use Rattle.std.specs.List.{flat_map}
use Rattle.std.proofs.lemmas.List.{get_or_append_left, length-replicate, get_or-set_same, get_or-set_other}
use Rattle.std.proofs.lemmas.List.Sums.{sum_by-cons, sum_by-append, sum_by-set}
use Rattle.std.proofs.lemmas.Bool.Decides.{eqb_tells}
use Rattle.gi_aiger.specs.declared.mark.Mark.{Mark}
use Rattle.gi_aiger.specs.declared.mark.Mark.TheVariants.{Fresh, Used, Defined}
use Rattle.gi_aiger.specs.declared.row.Row.{Row}
use Rattle.gi_aiger.specs.Rows.{uses_of, literals_in, defined_by, variables_by, defined_variables}
use Rattle.gi_aiger.specs.Laws.{UndefinedIsHopeless}
use Rattle.gi_aiger.specs.Marks.{is_used, is_fresh, missing, mark_at, reaches, with_mark, used, used_literal, all_used, defined, marked, marks_of}

-- a mark's part of the count
abbrev pub weight : Mark → ℕ
weight m = cond (is_used m) 1 0

weight_one : (m : Mark) → weight m ≤ 1
weight_one Fresh = omega arith
weight_one Used = omega arith
weight_one Defined = omega arith

fresh_none : (n : ℕ) → sum_by weight (replicate n Fresh) ≡ 0
fresh_none zero = refl
fresh_none (suc n) = omega (arith, sum_by-cons weight Fresh (replicate n Fresh), fresh_none n)

missing-reaches : (v : ℕ) (ms : List Mark) → missing (reaches v ms) ≡ missing ms
missing-reaches v ms = omega (arith, sum_by-append weight ms (replicate (v + 1 - length ms) Fresh), fresh_none (v + 1 - length ms))

reached : (v : ℕ) (ms : List Mark) → v < length (reaches v ms)
reached v ms = omega (arith, length-append ms (replicate (v + 1 - length ms) Fresh), length-replicate (v + 1 - length ms) Fresh)

rep : (n w : ℕ) → get_or (replicate n Fresh) w Fresh ≡ Fresh
rep zero w = refl
rep (suc n) zero = refl
rep (suc n) (suc w) = rep n w

fresh_past : (ms : List Mark) (n w : ℕ) → get_or (ms ++ replicate n Fresh) w Fresh ≡ get_or ms w Fresh
fresh_past [] n w = rep n w
fresh_past (m ∷ ms) n zero = refl
fresh_past (m ∷ ms) n (suc w) = fresh_past ms n w

-- the mark that was given, and the others
pub at_same : (v : ℕ) (m : Mark) (ms : List Mark) → mark_at (with_mark v m ms) v ≡ m
at_same v m ms = get_or-set_same (reaches v ms) v m Fresh (reached v ms)

pub at_other : (v w : ℕ) (m : Mark) (ms : List Mark) → w ≢ v → mark_at (with_mark v m ms) w ≡ mark_at ms w
at_other v w m ms other = get_or-set_other (reaches v ms) v w m Fresh other ∙ fresh_past ms (v + 1 - length ms) w

-- the count with another mark
pub missing_with : (v : ℕ) (m : Mark) (ms : List Mark) → missing (with_mark v m ms) + weight (mark_at ms v) ≡ missing ms + weight m
missing_with v m ms =
    let old : get_or (reaches v ms) v Fresh ≡ mark_at ms v = fresh_past ms (v + 1 - length ms) v in
    subst (λ (o : Mark). missing (with_mark v m ms) + weight o ≡ missing ms + weight m) old (subst (λ (k : ℕ). missing (with_mark v m ms) + weight (get_or (reaches v ms) v Fresh) ≡ k + weight m) (missing-reaches v ms) (sum_by-set weight (reaches v ms) v m Fresh (reached v ms)))

-- a use takes nothing from the count
used_more : (l : ℕ) (ms : List Mark) → missing ms ≤ missing (used_literal l ms)
used_more l ms = by_zero (l / 2 == 0) where
  by_fresh : (b : Bool) → missing ms ≤ missing (cond b (with_mark (l / 2) Used ms) ms)
  by_fresh true = omega (arith, missing_with (l / 2) Used ms, weight_one (mark_at ms (l / 2)))
  by_fresh false = omega arith

  by_zero : (b : Bool) → missing ms ≤ missing (cond b ms (used (l / 2) ms))
  by_zero true = omega arith
  by_zero false = by_fresh (is_fresh (mark_at ms (l / 2)))

all_more : (ls : List ℕ) (ms : List Mark) → missing ms ≤ missing (all_used ls ms)
all_more [] ms = omega arith
all_more (l ∷ ls) ms = omega (arith, used_more l ms, all_more ls (used_literal l ms))

defined_falls : (d : Option ℕ) (ms : List Mark) → missing ms ≤ missing (defined d ms) + length (variables_by d)
defined_falls None ms = omega arith
defined_falls (Some v) ms = omega (arith, missing_with v Defined ms, weight_one (mark_at ms v))

pub falls : (rs : List Row) (ms : List Mark) → missing ms ≤ missing (marks_of rs ms) + length (defined_variables rs)
falls [] ms = omega arith
falls (r ∷ rs) ms = omega (arith, defined_falls (defined_by r) ms, all_more (literals_in r) (defined (defined_by r) ms), falls rs (marked r ms), length-append (variables_by (defined_by r)) (defined_variables rs))

pub marks-append : (rs qs : List Row) (ms : List Mark) → marks_of (rs ++ qs) ms ≡ marks_of qs (marks_of rs ms)
marks-append [] qs ms = refl
marks-append (r ∷ rs) qs ms = marks-append rs qs (marked r ms)

-- what is defined stays so
used_keeps : (l v : ℕ) (ms : List Mark) → mark_at ms v ≡ Defined → mark_at (used_literal l ms) v ≡ Defined
used_keeps l v ms d = by_zero (l / 2 == 0) where
  by_fresh : (b : Bool) → is_fresh (mark_at ms (l / 2)) ≡ b → mark_at (cond b (with_mark (l / 2) Used ms) ms) v ≡ Defined
  by_fresh true t = elim (eqb_tells v (l / 2)) [
    | inl e ↦ let fresh : is_fresh (mark_at ms v) ≡ true = subst (λ (w : ℕ). is_fresh (mark_at ms w) ≡ true) (sym e.1) t in let old : is_fresh (mark_at ms v) ≡ false = ap is_fresh d in absurd cc
    | inr n ↦ at_other (l / 2) v Used ms n.1 ∙ d
  ]
  by_fresh false t = d

  by_zero : (b : Bool) → mark_at (cond b ms (used (l / 2) ms)) v ≡ Defined
  by_zero true = d
  by_zero false = by_fresh (is_fresh (mark_at ms (l / 2))) refl

all_keep : (ls : List ℕ) (v : ℕ) (ms : List Mark) → mark_at ms v ≡ Defined → mark_at (all_used ls ms) v ≡ Defined
all_keep [] v ms d = d
all_keep (l ∷ ls) v ms d = all_keep ls v (used_literal l ms) (used_keeps l v ms d)

with_keeps : (w v : ℕ) (ms : List Mark) → mark_at ms v ≡ Defined → mark_at (with_mark w Defined ms) v ≡ Defined
with_keeps w v ms d = elim (eqb_tells v w) [ inl e ↦ subst (λ (i : ℕ). mark_at (with_mark w Defined ms) i ≡ Defined) (sym e.1) (at_same w Defined ms) | inr n ↦ at_other w v Defined ms n.1 ∙ d ]

defined_keeps : (d : Option ℕ) (v : ℕ) (ms : List Mark) → mark_at ms v ≡ Defined → mark_at (defined d ms) v ≡ Defined
defined_keeps None v ms h = h
defined_keeps (Some w) v ms h = with_keeps w v ms h

pub rows_keep : (rs : List Row) (v : ℕ) (ms : List Mark) → mark_at ms v ≡ Defined → mark_at (marks_of rs ms) v ≡ Defined
rows_keep [] v ms h = h
rows_keep (r ∷ rs) v ms h = rows_keep rs v (marked r ms) (all_keep (literals_in r) v (defined (defined_by r) ms) (defined_keeps (defined_by r) v ms h))

-- what a line defines is marked so
pub rows_define : (rs : List Row) (v : ℕ) (ms : List Mark) → Contains (defined_variables rs) v → mark_at (marks_of rs ms) v ≡ Defined
rows_define [] v ms h = absurd (omega (arith, h.1))
rows_define (r ∷ rs) v ms h = by_one (defined_by r) refl h (λ (g : Contains (defined_variables rs) v). rows_define rs v (marked r ms) g) where
  by_one : (d : Option ℕ) → defined_by r ≡ d → Contains (variables_by d ++ defined_variables rs) v → (Contains (defined_variables rs) v → mark_at (marks_of rs (marked r ms)) v ≡ Defined) → mark_at (marks_of rs (marked r ms)) v ≡ Defined
  by_one None is g ih = ih g
  by_one (Some w) is (zero, lt, e) ih =
      let here : mark_at (defined (defined_by r) ms) w ≡ Defined = subst (λ (d : Option ℕ). mark_at (defined d ms) w ≡ Defined) (sym is) (at_same w Defined ms) in
      rows_keep rs v (marked r ms) (all_keep (literals_in r) v (defined (defined_by r) ms) (subst (λ (i : ℕ). mark_at (defined (defined_by r) ms) i ≡ Defined) e here))
  by_one (Some w) is (suc k, lt, e) ih = ih (k, omega arith, e)

-- in lists
there : (x y : ℕ) (xs : List ℕ) → Contains xs y → Contains (x ∷ xs) y
there x y xs h = (suc h.0, omega (arith, h.1), h.2)

right : (xs ys : List ℕ) (v : ℕ) → Contains ys v → Contains (xs ++ ys) v
right [] ys v h = h
right (x ∷ xs) ys v h = there x v (xs ++ ys) (right xs ys v h)

left : (xs ys : List ℕ) (v : ℕ) → Contains xs v → Contains (xs ++ ys) v
left xs ys v h = (h.0, omega (arith, h.1, length-append xs ys), get_or_append_left xs ys v h.0 h.1 ∙ h.2)

-- the variables of literals, constants left out
abbrev pub variables : List ℕ → List ℕ
variables ls = filter (λ v. not (v == 0)) (map (λ l. l / 2) ls)

-- what is marked as used was so, or is used by these literals
used_was : (l v : ℕ) (ms : List Mark) → mark_at (used_literal l ms) v ≡ Used → (mark_at ms v ≡ Used) ⊎ ((l / 2 ≡ v) × ((l / 2 == 0) ≡ false))
used_was l v ms h = by_zero (l / 2 == 0) refl h where
  by_fresh : (b : Bool) → (l / 2 == 0) ≡ false → mark_at (cond b (with_mark (l / 2) Used ms) ms) v ≡ Used → (mark_at ms v ≡ Used) ⊎ ((l / 2 ≡ v) × ((l / 2 == 0) ≡ false))
  by_fresh true z h = elim (eqb_tells v (l / 2)) [ inl e ↦ inr (sym e.1, z) | inr n ↦ inl (sym (at_other (l / 2) v Used ms n.1) ∙ h) ]
  by_fresh false z h = inl h

  by_zero : (b : Bool) → (l / 2 == 0) ≡ b → mark_at (cond b ms (used (l / 2) ms)) v ≡ Used → (mark_at ms v ≡ Used) ⊎ ((l / 2 ≡ v) × ((l / 2 == 0) ≡ false))
  by_zero true z h = inl h
  by_zero false z h = by_fresh (is_fresh (mark_at ms (l / 2))) z h

all_was : (ls : List ℕ) (v : ℕ) (ms : List Mark) → mark_at (all_used ls ms) v ≡ Used → (mark_at ms v ≡ Used) ⊎ Contains (variables ls) v
all_was [] v ms h = inl h
all_was (l ∷ ls) v ms h = elim (all_was ls v (used_literal l ms) h) [
  | inl u ↦ elim (used_was l v ms u) [ inl old ↦ inl old | inr new ↦ inr (first new.0 new.1) ]
  | inr u ↦ inr (later (not (l / 2 == 0)) u)
] where
  first : l / 2 ≡ v → (l / 2 == 0) ≡ false → Contains (variables (l ∷ ls)) v
  first e z = rw z (0, omega arith, e)

  later : (b : Bool) → Contains (variables ls) v → Contains (cond b (l / 2 ∷ variables ls) (variables ls)) v
  later true u = there (l / 2) v (variables ls) u
  later false u = u

defined_was : (d : Option ℕ) (v : ℕ) (ms : List Mark) → mark_at (defined d ms) v ≡ Used → mark_at ms v ≡ Used
defined_was None v ms h = h
defined_was (Some w) v ms h = elim (eqb_tells v w) [ inl e ↦ let same = at_same w Defined ms in let at_w = subst (λ (i : ℕ). mark_at (with_mark w Defined ms) i ≡ Used) e.1 h in absurd cc | inr n ↦ sym (at_other w v Defined ms n.1) ∙ h ]

pub rows_was : (rs : List Row) (v : ℕ) (ms : List Mark) → mark_at (marks_of rs ms) v ≡ Used → (mark_at ms v ≡ Used) ⊎ Contains (flat_map uses_of rs) v
rows_was [] v ms h = inl h
rows_was (r ∷ rs) v ms h = elim (rows_was rs v (marked r ms) h) [
  | inl u ↦ elim (all_was (literals_in r) v (defined (defined_by r) ms) u) [ inl old ↦ inl (defined_was (defined_by r) v ms old) | inr new ↦ inr (left (uses_of r) (flat_map uses_of rs) v new) ]
  | inr u ↦ inr (right (uses_of r) (flat_map uses_of rs) v u)
]

none_used : (ms : List Mark) → ((v : ℕ) → mark_at ms v ≢ Used) → missing ms ≡ 0
none_used [] h = refl
none_used (m ∷ ms) h = sum_by-cons weight m ms ∙ one m (h 0) (none_used ms (λ v. h (suc v))) where
  one : (m : Mark) → m ≢ Used → missing ms ≡ 0 → weight m + missing ms ≡ 0
  one Fresh other rest = omega (arith, rest)
  one Used other rest = absurd (other refl)
  one Defined other rest = omega (arith, rest)

pub closed_end : (rs : List Row) → All (Contains (defined_variables rs)) (flat_map uses_of rs) → missing (marks_of rs []) ≡ 0
closed_end rs closed = none_used (marks_of rs []) (λ v h. elim (rows_was rs v [] h) [ inl old ↦ absurd cc | inr u ↦ twice v h (rows_define rs v [] (subst (Contains (defined_variables rs)) u.2 (closed u.0 v u.1))) ]) where
  twice : (v : ℕ) → mark_at (marks_of rs []) v ≡ Used → mark_at (marks_of rs []) v ≡ Defined → ⊥
  twice v a b = cc

pub hopeless : UndefinedIsHopeless
hopeless before more few closed =
    let none : missing (marks_of more (marks_of before [])) ≡ 0 = ap missing (sym (marks-append before more [])) ∙ closed_end (before ++ more) closed in
    omega (arith, falls more (marks_of before []), none, few)
