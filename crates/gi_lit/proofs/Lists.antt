-- What lists contain.
use Rattle.std.proofs.Common.{◌≡◌, List, [], ◌∷◌, map, subst, arith, ◌⊎◌, inl, inr}
use Rattle.std.specs.List.{Contains}
use Rattle.std.proofs.lemmas.List.Elements.{Contains-append_right, Contains-append_cases, Contains-push_cases, Contains-get_or}

pub Contains-nil : {X : Type 0} (x : X) → Contains [] x → ⊥
Contains-nil x c = omega (arith, c.1)

pub Contains-first : {X : Type 0} (x : X) (xs : List X) → Contains (x ∷ xs) x
Contains-first x xs = Contains-get_or (x ∷ xs) 0 x (omega arith)

pub Contains-later : {X : Type 0} (x : X) (xs : List X) (y : X) → Contains xs y → Contains (x ∷ xs) y
Contains-later x xs y h = Contains-append_right (x ∷ []) xs y h

pub Contains-cases : {X : Type 0} (x : X) (xs : List X) (y : X) → Contains (x ∷ xs) y → (x ≡ y) ⊎ Contains xs y
Contains-cases x xs y h = elim (Contains-append_cases (x ∷ []) xs y h) [ inl a ↦ inl (one a) | inr b ↦ inr b ]
  where
    one : Contains (x ∷ []) y → x ≡ y
    one a = elim (Contains-push_cases [] x y a) [ inl e ↦ absurd (Contains-nil y e) | inr q ↦ q ]

pub Contains-map : {X Y : Type 0} (f : X → Y) (xs : List X) (x : X) → Contains xs x → Contains (map f xs) (f x)
Contains-map f [] x c = absurd (Contains-nil x c)
Contains-map f (y ∷ ys) x c = elim (Contains-cases y ys x c) [
  | inl e ↦ subst (λ z. Contains (f y ∷ map f ys) (f z)) e (Contains-first (f y) (map f ys))
  | inr r ↦ Contains-later (f y) (map f ys) (f x) (Contains-map f ys x r)
]

pub Contains-unmap : {X Y : Type 0} (f : X → Y) (xs : List X) (y : Y) → Contains (map f xs) y → (x : X) × Contains xs x × (f x ≡ y)
Contains-unmap f [] y c = absurd (Contains-nil y c)
Contains-unmap f (x ∷ xs) y c = elim (Contains-cases (f x) (map f xs) y c) [
  | inl e ↦ (x, Contains-first x xs, e)
  | inr r ↦ let q = Contains-unmap f xs y r in (q.0, Contains-later x xs q.0 q.1, q.2)
]
