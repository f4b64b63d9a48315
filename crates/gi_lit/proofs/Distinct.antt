-- Lists in which no number stands twice.
use Rattle.std.proofs.Common.{◌≡◌, ℕ, Bool, true, false, cond, List, [], ◌∷◌, ◌++◌, refl, sym, ap, ◌∙◌, subst, arith, ◌⊎◌, inl, inr, append_assoc}
use Rattle.std.specs.List.{Contains, filter}
use Rattle.std.proofs.lemmas.List.Elements.{Contains-append_left, Contains-append_right, Contains-append_cases, Contains-push_cases, Contains-get_or}
use Rattle.std.proofs.lemmas.Bool.{both_ways}
use Rattle.gi_lit.specs.Lists.{IsDistinct}

pub Contains-tail : (x : ℕ) (xs : List ℕ) (y : ℕ) → Contains xs y → Contains (x ∷ xs) y
Contains-tail x xs y h = Contains-append_right (x ∷ []) xs y h

pub Contains-head : (x : ℕ) (xs : List ℕ) → Contains (x ∷ xs) x
Contains-head x xs = Contains-get_or (x ∷ xs) 0 x (omega arith)

pub Contains-cons_cases : (x : ℕ) (xs : List ℕ) (y : ℕ) → Contains (x ∷ xs) y → (x ≡ y) ⊎ Contains xs y
Contains-cons_cases x xs y h = elim (Contains-append_cases (x ∷ []) xs y h) [ inl a ↦ inl (one a) | inr b ↦ inr b ]
  where
    one : Contains (x ∷ []) y → x ≡ y
    one a = elim (Contains-push_cases [] x y a) [ inl e ↦ absurd (let b = e.1 in omega arith) | inr q ↦ q ]

pub IsDistinct-push : (xs : List ℕ) (x : ℕ) → ¬ Contains xs x → IsDistinct xs → IsDistinct (xs ++ x ∷ [])
IsDistinct-push [] x n d = (λ h. let b = h.1 in absurd (omega arith), tt)
IsDistinct-push (y ∷ ys) x n d = (λ h. elim (Contains-push_cases ys x y h) [ inl a ↦ d.0 a | inr e ↦ n (subst (Contains (y ∷ ys)) (sym e) (Contains-head y ys)) ], IsDistinct-push ys x (λ h. n (Contains-tail y ys x h)) d.1)

-- the first goes behind the last
pub IsDistinct-turned : (x : ℕ) (xs ys : List ℕ) → IsDistinct (x ∷ (xs ++ ys)) → IsDistinct (xs ++ (ys ++ x ∷ []))
IsDistinct-turned x xs ys d = rw (← append_assoc xs ys (x ∷ [])) (IsDistinct-push (xs ++ ys) x d.0 d.1)

pub Contains-filter : (p : ℕ → Bool) (xs : List ℕ) (x : ℕ) → Contains (filter p xs) x → Contains xs x
Contains-filter p [] x h = h
Contains-filter p (y ∷ ys) x h = go (Contains-filter p ys x) (p y) h
  where
    go : (Contains (filter p ys) x → Contains ys x) → (b : Bool) → Contains (cond b (y ∷ filter p ys) (filter p ys)) x → Contains (y ∷ ys) x
    go rest true a = elim (Contains-cons_cases y (filter p ys) x a) [ inl e ↦ subst (Contains (y ∷ ys)) e (Contains-head y ys) | inr c ↦ Contains-tail y ys x (rest c) ]
    go rest false a = Contains-tail y ys x (rest a)

-- what passes is kept
pub filter-has : {X : Type 0} (p : X → Bool) (xs : List X) (x : X) → p x ≡ true → Contains xs x → Contains (filter p xs) x
filter-has p [] x e h = h
filter-has {X} p (y ∷ ys) x e h = go (filter-has p ys x e) (p y) refl (Contains-append_cases (y ∷ []) ys x h)
  where
    one : Contains (y ∷ []) x → y ≡ x
    one a = elim (Contains-push_cases [] y x a) [ inl c ↦ absurd (let b = c.1 in omega arith) | inr q ↦ q ]

    go : (Contains ys x → Contains (filter p ys) x) → (b : Bool) → p y ≡ b → Contains (y ∷ []) x ⊎ Contains ys x → Contains (cond b (y ∷ filter p ys) (filter p ys)) x
    go rest true q (inl a) = Contains-append_left (y ∷ []) (filter p ys) x a
    go rest true q (inr c) = Contains-append_right (y ∷ []) (filter p ys) x (rest c)
    go rest false q (inl a) = absurd (both_ways (p y) q (ap p (one a) ∙ e))
    go rest false q (inr c) = rest c

pub IsDistinct-append_left : (xs ys : List ℕ) → IsDistinct (xs ++ ys) → IsDistinct xs
IsDistinct-append_left [] ys d = tt
IsDistinct-append_left (x ∷ xs) ys d = (λ c. d.0 (Contains-append_left xs ys x c), IsDistinct-append_left xs ys d.1)

-- the last part with some left out, and one more in front that was left out
pub IsDistinct-moved : (p : ℕ → Bool) (xs ys : List ℕ) → IsDistinct (xs ++ ys) → IsDistinct (xs ++ filter p ys)
IsDistinct-moved p [] [] d = tt
IsDistinct-moved p [] (y ∷ ys) d = go (IsDistinct-moved p [] ys d.1) (p y)
  where
    go : IsDistinct (filter p ys) → (b : Bool) → IsDistinct (cond b (y ∷ filter p ys) (filter p ys))
    go rest true = (λ c. d.0 (Contains-filter p ys y c), rest)
    go rest false = rest
IsDistinct-moved p (x ∷ xs) ys d = (λ c. elim (Contains-append_cases xs (filter p ys) x c) [ inl a ↦ d.0 (Contains-append_left xs ys x a) | inr b ↦ d.0 (Contains-append_right xs ys x (Contains-filter p ys x b)) ], IsDistinct-moved p xs ys d.1)

-- nothing stands in both parts
pub IsDistinct-apart : (xs ys : List ℕ) (x : ℕ) → IsDistinct (xs ++ ys) → Contains xs x → ¬ Contains ys x
IsDistinct-apart [] ys x d a b = let c = a.1 in omega arith
IsDistinct-apart (y ∷ xs) ys x d a b = elim (Contains-cons_cases y xs x a) [ inl e ↦ d.0 (Contains-append_right xs ys y (subst (Contains ys) (sym e) b)) | inr c ↦ IsDistinct-apart xs ys x d.1 c b ]
