-- How long a list is without an item that it has.
use Rattle.std.proofs.Common.{◌≡◌, ℕ, ◌+◌, ◌≤◌, ◌==◌, Bool, true, false, not, cond, List, [], ◌∷◌, length, refl, arith, ◌⊎◌, inl, inr}
use Rattle.std.specs.List.{Contains, filter}
use Rattle.std.proofs.lemmas.Bool.{eq-eqb}
use Rattle.slab.proofs.SlabLemmas.{Contains-cons_cases}
use Rattle.gi_lit.specs.Problem.{without}

at_most : (p : ℕ → Bool) (xs : List ℕ) → length (filter p xs) ≤ length xs
at_most p [] = omega arith
at_most p (x ∷ xs) = go (p x) (at_most p xs)
  where
    go : (b : Bool) → length (filter p xs) ≤ length xs → length (cond b (x ∷ filter p xs) (filter p xs)) ≤ length (x ∷ xs)
    go true h = omega arith
    go false h = omega arith

pub without_less : (g : ℕ) (xs : List ℕ) → Contains xs g → length (without g xs) + 1 ≤ length xs
unfolding without
without_less g [] c = absurd (let b = c.1 in omega arith)
without_less g (x ∷ xs) c = go (x == g) refl (Contains-cons_cases x g xs c) (without_less g xs)
  where
    go : (b : Bool) → (x == g) ≡ b → (x ≡ g) ⊎ Contains xs g → (Contains xs g → length (filter (λ y. not (y == g)) xs) + 1 ≤ length xs) → length (cond (not b) (x ∷ filter (λ y. not (y == g)) xs) (filter (λ y. not (y == g)) xs)) + 1 ≤ length (x ∷ xs)
    go true e m rest = let a = at_most (λ y. not (y == g)) xs in omega (arith, a)
    go false e (inl q) rest = absurd (let t = eq-eqb x g q in cc (e, t))
    go false e (inr m) rest = let a = rest m in omega (arith, a)
