-- Tables that are made number by number.
use Rattle.std.proofs.Common.{◌≡◌, ℕ, ◌*◌, Bool, true, false, ◌||◌, ◌&&◌, ◌/◌, nat_eq, List, [], ◌∷◌, ◌++◌, get_or, replicate, refl, ap, sym, ◌∙◌, inl, inr, arith}
use Rattle.std.specs.List.{list_all}
use Rattle.std.proofs.lemmas.Bool.{cases_lt}
use Rattle.std.proofs.lemmas.List.{get_or-replicate, get_or_past, length-replicate}
use Rattle.std.proofs.lemmas.List.Folds.{list_any-append}
use Rattle.gi_lit.specs.Problem.{are_given, has}
use Rattle.gi_kept.specs.Marks.{AreMarked, holds_marked, meets_marked}
use Rattle.gi_kept.specs.Truth.{holds, meets}

or_none : (b : Bool) → (b || false) ≡ b
or_none true = refl
or_none false = refl

-- a number more
pub marked_more : (m n : List Bool) (xs : List ℕ) (x : ℕ) → AreMarked m xs → ((y : ℕ) → get_or n y false ≡ (get_or m y false || nat_eq y x)) → AreMarked n (xs ++ x ∷ [])
marked_more m n xs x was is = record {
  each = λ y. is y ∙ ap (λ b. b || nat_eq y x) (was.each y) ∙ ap (λ b. has xs y || b) (sym (or_none (nat_eq y x))) ∙ sym (list_any-append (nat_eq y) xs (x ∷ []));
}

-- the same at a spelling of the list
pub marked_is : (m : List Bool) (xs ys : List ℕ) → xs ≡ ys → AreMarked m xs → AreMarked m ys
marked_is m xs ys e was = record { each = λ y. was.each y ∙ ap (λ zs. has zs y) e }

-- what a table says is what the list says
pub meets_is : (m : List Bool) (xs clause : List ℕ) → AreMarked m xs → meets_marked m clause ≡ meets xs clause
meets_is m xs [] a = refl
meets_is m xs (l ∷ ls) a = ap (λ b. b || meets_marked m ls) (a.each l) ∙ ap (λ b. has xs l || b) (meets_is m xs ls a)

pub given_is : (m : List Bool) (xs guards : List ℕ) → AreMarked m xs → list_all (λ g. get_or m (2 * g) false) guards ≡ are_given xs guards
given_is m xs [] a = refl
given_is m xs (g ∷ gs) a = ap (λ b. b && list_all (λ h. get_or m (2 * h) false) gs) (a.each (2 * g)) ∙ ap (λ b. has xs (2 * g) && b) (given_is m xs gs a)

pub holds_is : (gs m : List Bool) (guards xs : List ℕ) (l : ℕ) → AreMarked gs guards → AreMarked m xs → holds_marked gs m l ≡ holds guards xs l
holds_is gs m guards xs l a b = ap (λ x. x || get_or m l false) (a.each (l / 2)) ∙ ap (λ x. has guards (l / 2) || x) (b.each l)

-- nothing is marked
pub marked_none : (n : ℕ) → AreMarked (replicate n false) []
marked_none n = record {
  each = λ x. elim (cases_lt x n) [
    | inl low ↦ get_or-replicate n x false false low
    | inr high ↦ get_or_past (replicate n false) x false (omega (arith, length-replicate n false))
  ];
}
