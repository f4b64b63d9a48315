-- Assignments of n variables are lists of n values.
use Rattle.std.proofs.Common.{◌≡◌, ℕ, ◌-◌, ◌/◌, ◌<◌, ◌≤◌, Bool, false, List, [], ◌∷◌, ◌++◌, length, take, replicate, get_or, refl, sym, ◌∙◌, arith, inl, inr, length-append}
use Rattle.std.specs.List.{All}
use Rattle.std.proofs.lemmas.Bool.{cases_lt}
use Rattle.std.proofs.lemmas.List.{get_or-take, get_or_append_left, get_or-append_right, get_or_past, get_or-replicate, length-take-le, length-replicate}
use Rattle.std.proofs.lemmas.List.Elements.{All-head, All-tail}
use Rattle.gi_lit.specs.Literals.{IsWithin}
use Rattle.gi_lit.specs.Truth.{true_in, clause_true, Satisfies, MakesTrue}
use Rattle.gi_lit.specs.Laws.{ListsOfValuesSuffice, ConsequencesAreAmong, FailuresAreAmong, ImpliedClausesAreAmong}
use Rattle.gi_lit.specs.Problem.{Problem, full, IsWellFormed}
use Rattle.gi_lit.proofs.Guarding.{same_truth}
use Rattle.gi_lit.proofs.Resting.{rests}

-- the first n values, and false where there are fewer
abbrev fitted : ℕ → List Bool → List Bool
fitted n values = take n (values ++ replicate n false)

abbrev IsOf : ℕ → ℕ → Type 0
IsOf n l = (1 ≤ l / 2) × (l / 2 ≤ n)

module _ (n : ℕ) (v : List Bool) where
  fitted_long : length (fitted n v) ≡ n
  fitted_long = length-take-le n (v ++ replicate n false) (omega (arith, length-append v (replicate n false), length-replicate n false))

  fitted_at : (i : ℕ) → i < n → get_or (fitted n v) i false ≡ get_or v i false
  fitted_at i lt = get_or-take n (v ++ replicate n false) i false lt ∙ elim (cases_lt i (length v)) [
    | inl inside ↦ get_or_append_left v (replicate n false) false i inside
    | inr past ↦ get_or-append_right v (replicate n false) (length v) i false refl past ∙ get_or-replicate n (i - length v) false false (omega arith) ∙ sym (get_or_past v i false past)
  ]

  lit_same : (l : ℕ) → IsOf n l → true_in (fitted n v) l ≡ true_in v l
  lit_same l w = let low = w.0 in let high = w.1 in same_truth v (fitted n v) l (fitted_at (l / 2 - 1) (omega (arith, low, high)))

  clause_same : (c : List ℕ) → IsWithin n c → clause_true (fitted n v) c ≡ clause_true v c
  clause_same [] w = refl
  clause_same (l ∷ c) w = rw (lit_same l (All-head (IsOf n) l c w), clause_same c (All-tail (IsOf n) l c w)) refl

  satisfies_fitted : (clauses : List (List ℕ)) → All (IsWithin n) clauses → Satisfies v clauses → Satisfies (fitted n v) clauses
  satisfies_fitted clauses w s = record { each = λ k d lt. clause_same (get_or clauses k d) (w k d lt) ∙ s.each k d lt }

  makes_fitted : (lits : List ℕ) → IsWithin n lits → MakesTrue v lits → MakesTrue (fitted n v) lits
  makes_fitted lits w t = record { each = λ k d lt. lit_same (get_or lits k d) (w k d lt) ∙ t.each k d lt }

pub lists_suffice : ListsOfValuesSuffice
lists_suffice n clauses lits wc wl v s t = (fitted n v, fitted_long n v, satisfies_fitted n v clauses wc s, makes_fitted n v lits wl t)

pub consequences_among : ConsequencesAreAmong
consequences_among n clauses given l wc wl = (
  λ h v s t. sym (lit_same n v l (All-head (IsOf n) l given wl)) ∙ h (fitted n v) (fitted_long n v) (satisfies_fitted n v clauses wc s) (makes_fitted n v given (All-tail (IsOf n) l given wl) t),
  λ h v e. h v,
)

pub failures_among : FailuresAreAmong
failures_among n clauses given wc wg = (
  λ h v s t. h (fitted n v) (fitted_long n v) (satisfies_fitted n v clauses wc s) (makes_fitted n v given wg t),
  λ h v e. h v,
)

-- a problem's full clauses lie within its variables
full_within : (p : Problem) → IsWellFormed p → All (IsWithin p.vars) (full p)
full_within p w k d lt = λ j e jl. let x = (rests p [] w).lits k d lt j e jl in (x.low, x.high)

pub implied_among : ImpliedClausesAreAmong
implied_among p clause w wc = (
  λ h. record { each = λ v s. sym (clause_same p.vars v clause wc) ∙ h (fitted p.vars v) (fitted_long p.vars v) (satisfies_fitted p.vars v (full p) (full_within p w) s) },
  λ h v e. h.each v,
)
