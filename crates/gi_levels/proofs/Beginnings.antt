-- Where what holds of a list holds of its beginnings, there is one place up to which it holds and with which it doesn't.
use Rattle.std.proofs.Common.{◌≡◌, ℕ, zero, suc, ◌+◌, ◌≤◌, List, [], ◌∷◌, ◌++◌, take, drop, inl, inr, refl, ap, sym, subst, arith}
use Rattle.std.proofs.lemmas.List.{take-append-drop}
use Rattle.std.proofs.lemmas.Bool.Decides.{leb_tells}

take_less : {A : Type 0} (j k : ℕ) (xs : List A) → j ≤ k → take j (take k xs) ≡ take j xs
take_less zero k xs le = refl
take_less (suc j) zero xs le = absurd (omega arith)
take_less (suc j) (suc k) [] le = refl
take_less {A} (suc j) (suc k) (x ∷ xs) le = ap (λ (ys : List A). x ∷ ys) (take_less j k xs (omega arith))

beginning : {A : Type 0} (P : List A → Type 0) → ((xs ys : List A) → P (xs ++ ys) → P xs) → (xs : List A) (j k : ℕ) → j ≤ k → P (take k xs) → P (take j xs)
beginning P part xs j k le h = subst P (take_less j k xs le) (part (take j (take k xs)) (drop j (take k xs)) (subst P (sym (take-append-drop j (take k xs))) h))

pub one_place : {A : Type 0} (P : List A → Type 0) → ((xs ys : List A) → P (xs ++ ys) → P xs) → (xs : List A) (j k : ℕ) → P (take j xs) → (P (take (j + 1) xs) → ⊥) → P (take k xs) → (P (take (k + 1) xs) → ⊥) → j ≡ k
one_place P part xs j k before closes before' closes' = elim (leb_tells (j + 1) k) [
  | inl t ↦ absurd (closes (beginning P part xs (j + 1) k t.1 before'))
  | inr f ↦ elim (leb_tells (k + 1) j) [
    | inl t ↦ absurd (closes' (beginning P part xs (k + 1) j t.1 before))
    | inr g ↦ omega (arith, f.1, g.1)
  ]
]
