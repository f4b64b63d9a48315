-- Elements of a front of a list, and lists with some left out.
use Rattle.std.proofs.Common.{◌≡◌, ℕ, ◌<◌, List, [], ◌∷◌, ◌++◌, length, take, get_or, refl, sym, ◌∙◌, arith, inl, inr}
use Rattle.std.specs.List.{Contains}
use Rattle.std.proofs.lemmas.List.{get_or-take, get_or_default, length-take}
use Rattle.gi_lit.specs.Lists.{IsSublist}

-- an element of a front, by its place
pub place_in_take : (n : ℕ) (xs : List ℕ) (x : ℕ) → Contains (take n xs) x → (k : ℕ) × (k < n) × (k < length xs) × (get_or xs k 0 ≡ x)
place_in_take n xs x h =
    let lt : h.0 < length (take n xs) = h.1 in
    let below : h.0 < n = omega (arith, length-take n xs) in
    let within : h.0 < length xs = omega (arith, length-take n xs) in
    (h.0, below, within, get_or_default xs h.0 0 x within ∙ (sym (get_or-take n xs h.0 x below) ∙ h.2))

pub Contains-take : (n : ℕ) (xs : List ℕ) (x : ℕ) → Contains (take n xs) x → Contains xs x
Contains-take n xs x h = let p = place_in_take n xs x h in (p.0, p.2, get_or_default xs p.0 x 0 p.2 ∙ p.3)

pub front_contains : (n : ℕ) (xs : List ℕ) (k : ℕ) → k < n → k < length xs → Contains (take n xs) (get_or xs k 0)
front_contains n xs k lt within = (k, omega (arith, length-take n xs), get_or-take n xs k (get_or xs k 0) lt ∙ get_or_default xs k (get_or xs k 0) 0 within)

pub sublist_skip : (xs ys : List ℕ) (y : ℕ) → IsSublist xs ys → IsSublist xs (ys ++ y ∷ [])
sublist_skip [] ys y h = tt
sublist_skip (x ∷ xs) [] y h = elim h [ ]
sublist_skip (x ∷ xs) (z ∷ zs) y (inl h) = inl (h.0, sublist_skip xs zs y h.1)
sublist_skip (x ∷ xs) (z ∷ zs) y (inr h) = inr (sublist_skip (x ∷ xs) zs y h)

pub sublist_push : (xs ys : List ℕ) (x : ℕ) → IsSublist xs ys → IsSublist (xs ++ x ∷ []) (ys ++ x ∷ [])
sublist_push [] [] x h = inl (refl, tt)
sublist_push [] (z ∷ zs) x h = inr (sublist_push [] zs x tt)
sublist_push (w ∷ ws) [] x h = elim h [ ]
sublist_push (w ∷ ws) (z ∷ zs) x (inl h) = inl (h.0, sublist_push ws zs x h.1)
sublist_push (w ∷ ws) (z ∷ zs) x (inr h) = inr (sublist_push (w ∷ ws) zs x h)
