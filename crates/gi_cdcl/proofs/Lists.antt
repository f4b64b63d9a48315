-- What lists contain, and what is left of a clause without a literal.
use Rattle.std.proofs.Common.{◌≡◌, ◌≢◌, ℕ, not, ◌==◌, List, [], ◌∷◌, map, refl, ap, ◌∙◌, subst, arith, ◌⊎◌, inl, inr}
use Rattle.std.specs.List.{Contains, filter}
use Rattle.std.proofs.lemmas.Bool.{cases_eq, eq-eqb, ne_eqb}
use Rattle.std.proofs.lemmas.List.{length-map, get_or-map}
use Rattle.gi_lit.proofs.Distinct.{Contains-tail, Contains-cons_cases, filter-has}
use Rattle.gi_lit.specs.Problem.{without}

pub Contains-nil : {X : Type 0} (x : X) → Contains [] x → ⊥
Contains-nil x c = omega (arith, c.1)

pub Contains-head : {X : Type 0} (x : X) (xs : List X) → Contains (x ∷ xs) x
Contains-head x xs = (0, omega arith, refl)

pub Contains-map : {X Y : Type 0} (f : X → Y) (xs : List X) (x : X) → Contains xs x → Contains (map f xs) (f x)
Contains-map f xs x h = (h.0, rw (length-map xs f) h.1, get_or-map f xs h.0 x (f x) h.1 ∙ ap f h.2)

-- the other literals of a clause
pub without_keeps : (x : ℕ) (xs : List ℕ) (y : ℕ) → Contains xs y → y ≢ x → Contains (without x xs) y
unfolding without
without_keeps x xs y h ne = filter-has (λ u. not (u == x)) xs y (rw (ne_eqb y x ne) refl) h

pub without_has : (x : ℕ) (xs : List ℕ) (y : ℕ) → Contains (without x xs) y → Contains xs y × (y ≢ x)
unfolding without
without_has x [] y h = absurd (Contains-nil y h)
without_has x (z ∷ zs) y h = go (cases_eq z x) (without_has x zs y)
  where
    go : (z ≡ x) ⊎ (z ≢ x) → (Contains (filter (λ u. not (u == x)) zs) y → Contains zs y × (y ≢ x)) → Contains (z ∷ zs) y × (y ≢ x)
    go (inl same) rest =
        let r = rest (rw (eq-eqb z x same) at h) in
        (Contains-tail z zs y r.0, r.1)
    go (inr other) rest = elim (Contains-cons_cases z (filter (λ u. not (u == x)) zs) y (rw (ne_eqb z x other) at h)) [
      | inl e ↦ (subst (Contains (z ∷ zs)) e (Contains-head z zs), λ q. other (e ∙ q))
      | inr c ↦ let r = rest c in (Contains-tail z zs y r.0, r.1)
    ]
