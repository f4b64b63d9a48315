-- Where the first line ends.
use Rattle.std.proofs.Common.{suc, zero, ◌≡◌, ◌≢◌, ℕ, ◌+◌, ◌-◌, ◌<◌, ◌≤◌, List, [], ◌∷◌, length, take, drop, get_or, Some, None, refl, ap, sym, ◌∙◌, inl, inr, arith, add-one}
use Rattle.std.proofs.lemmas.Grind.{common_steps}
use Rattle.std.proofs.lemmas.Bool.{cases_lt, eqb-true, ne_eqb}
use Rattle.std.proofs.lemmas.List.{get_or-drop, length-drop}
use Rattle.memchr.specs.Find.{NoneBefore, Nowhere, Passes, is_byte}
use Rattle.gi_text.specs.Lines.{line_at}

-- an LF behind i other bytes ends the first line
pub found_at : (xs : List ℕ) (i : ℕ) → i < length xs → ((k : ℕ) → k < i → get_or xs k 0 ≢ 10) → get_or xs i 0 ≡ 10 → line_at xs ≡ Some (take i xs, drop (i + 1) xs)
found_at [] i lt before here = absurd (omega arith)
found_at (x ∷ xs) zero lt before here = grind (arith, common_steps)
found_at (x ∷ xs) (suc i) lt before here =
    let ih = found_at xs i (omega arith) (λ k h. before (suc k) (omega arith)) here in
    let ne = ne_eqb x 10 (before 0 (omega arith)) in
    rw (ne, add-one, ih, add-one) refl

-- without LF there is no line
pub none_at : (xs : List ℕ) → ((k : ℕ) → k < length xs → get_or xs k 0 ≢ 10) → line_at xs ≡ None
none_at [] each = refl
none_at (x ∷ xs) each =
    let ih = none_at xs (λ k h. each (suc k) (omega arith)) in
    let ne = ne_eqb x 10 (each 0 (omega arith)) in
    rw (ne, ih) refl

-- a byte that a search for LF passes over is none
pub not_lf : (xs : List ℕ) (i j k : ℕ) → Nowhere (Passes (is_byte 10) xs) i j → i ≤ k → k < j → get_or xs k 0 ≢ 10
not_lf xs i j k nowhere low high e = nowhere k low high (rw e refl)

pub is_lf : (xs : List ℕ) (k : ℕ) → Passes (is_byte 10) xs k → get_or xs k 0 ≡ 10
is_lf xs k passes = eqb-true (get_or xs k 0) 10 passes

-- what was looked at and what was passed over in the rest have no LF
pub before_more : (xs rest : List ℕ) (looked n : ℕ) → rest ≡ drop looked xs → ((k : ℕ) → k < looked → get_or xs k 0 ≢ 10) → Nowhere (Passes (is_byte 10) rest) 0 n → (k : ℕ) → k < looked + n → get_or xs k 0 ≢ 10
before_more xs rest looked n e before nowhere k lt = elim (cases_lt k looked) [
  | inl low ↦ before k low
  | inr high ↦ λ here.
      let back : looked + (k - looked) ≡ k = omega arith in
      not_lf rest 0 n (k - looked) nowhere (omega arith) (omega arith) (same (k - looked) ∙ ap (λ i. get_or xs i 0) back ∙ here)
] where
  same : (j : ℕ) → get_or rest j 0 ≡ get_or xs (looked + j) 0
  same j = ap (λ ys. get_or ys j 0) e ∙ get_or-drop looked xs j 0

-- an LF that a search of the rest finds ends the first line
pub found_behind : (xs rest : List ℕ) (looked i : ℕ) → rest ≡ drop looked xs → looked ≤ length xs → ((k : ℕ) → k < looked → get_or xs k 0 ≢ 10) → NoneBefore (Passes (is_byte 10) rest) 0 (length rest) i × Passes (is_byte 10) rest i → (looked + i < length xs) × (line_at xs ≡ Some (take (looked + i) xs, drop (looked + i + 1) xs))
found_behind xs rest looked i e le before (none, passes) =
    let lt : looked + i < length xs = omega (arith, ap length e, length-drop looked xs, none.high) in
    (lt, found_at xs (looked + i) lt (before_more xs rest looked i e before none.before) (sym (get_or-drop looked xs i 0) ∙ ap (λ ys. get_or ys i 0) (sym e) ∙ is_lf rest i passes))

-- a search of the rest that finds none
pub none_behind : (xs rest : List ℕ) (looked : ℕ) → rest ≡ drop looked xs → looked ≤ length xs → ((k : ℕ) → k < looked → get_or xs k 0 ≢ 10) → Nowhere (Passes (is_byte 10) rest) 0 (length rest) → (k : ℕ) → k < length xs → get_or xs k 0 ≢ 10
none_behind xs rest looked e le before nowhere k lt = before_more xs rest looked (length rest) e before nowhere k (omega (arith, ap length e, length-drop looked xs))
