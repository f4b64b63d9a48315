-- The greatest variable of a list that grows at its end.
use Rattle.std.proofs.Common.{◌≡◌, ℕ, ◌+◌, ◌/◌, ◌<◌, ◌≤◌, List, [], ◌∷◌, ◌++◌, length, max, take, get_or, refl, ap, ◌∙◌, arith}
use Rattle.std.specs.List.{All}
use Rattle.std.proofs.lemmas.List.{take_more}
use Rattle.std.proofs.lemmas.List.Elements.{All-nil, All-cons, All-weaker}
use Rattle.gi_lit.specs.Problem.{top}

pub top-nil : top [] ≡ 0
unfolding top
top-nil = refl

pub top-push : (xs : List ℕ) (l : ℕ) → top (xs ++ l ∷ []) ≡ max (top xs) (l / 2)
unfolding top
top-push [] l = omega arith
top-push (x ∷ xs) l = omega (arith, top-push xs l)

pub top-take : (xs : List ℕ) (i d : ℕ) → i < length xs → top (take (i + 1) xs) ≡ max (top (take i xs)) (get_or xs i d / 2)
top-take xs i d lt = ap top (take_more xs i d lt) ∙ top-push (take i xs) (get_or xs i d)

-- every literal's variable is at most the greatest
pub top_bounds : (c : List ℕ) → All (λ l. l / 2 ≤ top c) c
unfolding top
top_bounds [] = All-nil (λ l. l / 2 ≤ 0)
top_bounds (l ∷ c) = All-cons (λ m. m / 2 ≤ max (l / 2) (top c)) l c (omega arith) (All-weaker (λ m. m / 2 ≤ top c) (λ m. m / 2 ≤ max (l / 2) (top c)) (λ m h. omega arith) c (top_bounds c))
