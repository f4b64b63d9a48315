-- Some element of a list is such.
use Rattle.std.proofs.Common.{Bool, true, false, cond, List, [], ◌∷◌, ◌++◌, filter, Contains, ◌⊎◌, inl, inr, refl, arith}
use Rattle.std.proofs.lemmas.List.Elements.{Contains-append_right}

-- some element is such
abbrev pub Has : {X : Type 0} → (X → Type 0) → List X → Type 0
Has P [] = ⊥
Has P (x ∷ xs) = P x ⊎ Has P xs

pub has_right : {X : Type 0} (P : X → Type 0) (xs ys : List X) → Has P ys → Has P (xs ++ ys)
has_right P [] ys h = h
has_right P (x ∷ xs) ys h = inr (has_right P xs ys h)

pub has_unfiltered : {X : Type 0} (P : X → Type 0) (p : X → Bool) (xs : List X) → Has P (filter p xs) → Has P xs
has_unfiltered P p [] h = h
has_unfiltered P p (x ∷ xs) h = go (has_unfiltered P p xs) (p x) h
  where
    go : (Has P (filter p xs) → Has P xs) → (b : Bool) → Has P (cond b (x ∷ filter p xs) (filter p xs)) → P x ⊎ Has P xs
    go rest true (inl here) = inl here
    go rest true (inr there) = inr (rest there)
    go rest false there = inr (rest there)

pub has_contained : {X : Type 0} (P : X → Type 0) (xs : List X) → Has P xs → (x : X) × Contains xs x × P x
has_contained P [] h = absurd h
has_contained P (x ∷ xs) (inl here) = (x, (0, omega arith, refl), here)
has_contained P (x ∷ xs) (inr there) = let h = has_contained P xs there in (h.0, Contains-append_right (x ∷ []) xs h.0 h.1, h.2)

pub has_left : {X : Type 0} (P : X → Type 0) (xs ys : List X) → Has P xs → Has P (xs ++ ys)
has_left P [] ys h = absurd h
has_left P (x ∷ xs) ys (inl here) = inl here
has_left P (x ∷ xs) ys (inr there) = inr (has_left P xs ys there)

pub has_split : {X : Type 0} (P : X → Type 0) (xs ys : List X) → Has P (xs ++ ys) → Has P xs ⊎ Has P ys
has_split P [] ys h = inr h
has_split P (x ∷ xs) ys (inl here) = inl (inl here)
has_split P (x ∷ xs) ys (inr there) = elim (has_split P xs ys there) [ inl h ↦ inl (inr h) | inr h ↦ inr h ]
