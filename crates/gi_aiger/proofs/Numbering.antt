-- Literals that are numbered from one variable on.
use Rattle.std.proofs.Common.{◌≡◌, ℕ, zero, suc, ◌+◌, ◌*◌, ◌-◌, ◌<◌, ◌≤◌, List, [], ◌∷◌, ◌++◌, length, ◌⊎◌, inl, inr, Some, refl, ap, sym, ◌∙◌, subst, arith, length-append, append_assoc}
use Rattle.std.specs.List.{slice_get}
use Rattle.std.proofs.lemmas.Bool.{cases_lt}
use Rattle.std.proofs.lemmas.List.{append-nil}
use Rattle.gi_aiger.specs.Evens.{evens}

-- the literals of the variables behind k
abbrev pub AreFrom : ℕ → List ℕ → Type 0
AreFrom k [] = Unit {0}
AreFrom k (x ∷ xs) = (x ≡ 2 * (k + 1)) × AreFrom (k + 1) xs

pub from_join : (k : ℕ) (xs ys : List ℕ) → AreFrom k xs → AreFrom (k + length xs) ys → AreFrom k (xs ++ ys)
from_join k [] ys a b = let e : k + length {A = ℕ} [] ≡ k = omega arith in subst (λ (n : ℕ). AreFrom n ys) e b
from_join k (x ∷ xs) ys a b = let e : k + length (x ∷ xs) ≡ k + 1 + length xs = omega arith in (a.0, from_join (k + 1) xs ys a.1 (subst (λ (n : ℕ). AreFrom n ys) e b))

pub from_left : (k : ℕ) (xs ys : List ℕ) → AreFrom k (xs ++ ys) → AreFrom k xs
from_left k [] ys a = tt
from_left k (x ∷ xs) ys a = (a.0, from_left (k + 1) xs ys a.1)

pub from_right : (k : ℕ) (xs ys : List ℕ) → AreFrom k (xs ++ ys) → AreFrom (k + length xs) ys
from_right k [] ys a = let e : k ≡ k + length {A = ℕ} [] = omega arith in subst (λ (n : ℕ). AreFrom n ys) e a
from_right k (x ∷ xs) ys a = let e : k + 1 + length xs ≡ k + length (x ∷ xs) = omega arith in subst (λ (n : ℕ). AreFrom n ys) e (from_right (k + 1) xs ys a.1)

pub evens_length : (n : ℕ) → length (evens n) ≡ n
unfolding evens
evens_length zero = refl
evens_length (suc n) = omega (arith, length-append (evens n) (2 * (n + 1) ∷ []), evens_length n)

pub evens_from : (n : ℕ) → AreFrom 0 (evens n)
unfolding evens
evens_from zero = tt
evens_from (suc n) = from_join 0 (evens n) (2 * (n + 1) ∷ []) (evens_from n) (last (0 + length (evens n)) (omega (arith, evens_length n))) where
  last : (k : ℕ) → k ≡ n → AreFrom k (2 * (n + 1) ∷ [])
  last k e = (ap (λ (i : ℕ). 2 * (i + 1)) (sym e), tt)

evens_on : (k : ℕ) (xs : List ℕ) → AreFrom k xs → evens k ++ xs ≡ evens (k + length xs)
unfolding evens
evens_on k [] a = let e : k ≡ k + length {A = ℕ} [] = omega arith in append-nil (evens k) ∙ ap evens e
evens_on k (x ∷ xs) a =
    let one : evens k ++ x ∷ [] ≡ evens (suc k) = ap (λ (n : ℕ). evens k ++ n ∷ []) a.0 in
    let next : suc k ≡ k + 1 = omega arith in
    let count : k + 1 + length xs ≡ k + length (x ∷ xs) = omega arith in
    sym (append_assoc (evens k) (x ∷ []) xs) ∙ ap (λ (ys : List ℕ). ys ++ xs) (one ∙ ap evens next) ∙ evens_on (k + 1) xs a.1 ∙ ap evens count

pub from_evens : (xs : List ℕ) → AreFrom 0 xs → xs ≡ evens (length xs)
unfolding evens
from_evens xs a = let e : 0 + length xs ≡ length xs = omega arith in evens_on 0 xs a ∙ ap evens e

-- the literal at a place, with others behind them
pub evens_past : (n k : ℕ) (xs : List ℕ) → n ≤ k → slice_get (evens n ++ xs) k ≡ slice_get xs (k - n)
unfolding evens
evens_past zero k xs ge = let e : k ≡ k - 0 = omega arith in ap (slice_get xs) e
evens_past (suc n) k xs ge =
    let e : k - n ≡ suc (k - suc n) = omega (arith, ge) in
    ap (λ (ys : List ℕ). slice_get ys k) (append_assoc (evens n) (2 * (n + 1) ∷ []) xs) ∙ evens_past n k (2 * (n + 1) ∷ xs) (omega (arith, ge)) ∙ ap (slice_get (2 * (n + 1) ∷ xs)) e

pub evens_first : (n k : ℕ) (xs : List ℕ) → k < n → slice_get (evens n ++ xs) k ≡ Some (2 * (k + 1))
unfolding evens
evens_first zero k xs lt = absurd (omega (arith, lt))
evens_first (suc n) k xs lt =
    let rest : slice_get (evens n ++ 2 * (n + 1) ∷ xs) k ≡ Some (2 * (k + 1)) = elim (cases_lt k n) [
      | inl below ↦ evens_first n k (2 * (n + 1) ∷ xs) below
      | inr ge ↦ (
          let e : k - n ≡ 0 = omega (arith, lt, ge) in
          let same : n ≡ k = omega (arith, lt, ge) in
          evens_past n k (2 * (n + 1) ∷ xs) ge ∙ ap (slice_get (2 * (n + 1) ∷ xs)) e ∙ ap (λ (i : ℕ). Some (2 * (i + 1))) same)
    ] in
    ap (λ (ys : List ℕ). slice_get ys k) (append_assoc (evens n) (2 * (n + 1) ∷ []) xs) ∙ rest

pub evens_alone : (n : ℕ) → evens n ++ [] ≡ evens n
evens_alone n = append-nil (evens n)

pub evens_none : (xs : List ℕ) → evens 0 ++ xs ≡ xs
unfolding evens
evens_none xs = refl

pub evens_push : (n x : ℕ) (xs : List ℕ) → evens n ++ (xs ++ x ∷ []) ≡ (evens n ++ xs) ++ x ∷ []
evens_push n x xs = sym (append_assoc (evens n) xs (x ∷ []))

pub evens_count : (n : ℕ) (xs : List ℕ) → length (evens n ++ xs) ≡ n + length xs
evens_count n xs = omega (arith, length-append (evens n) xs, evens_length n)
