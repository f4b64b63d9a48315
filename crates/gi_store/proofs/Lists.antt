-- Lists in which nothing stands twice.
use Rattle.std.proofs.Common.{◌≡◌, ℕ, zero, suc, ◌<◌, Bool, true, false, cond, List, [], ◌∷◌, ◌++◌, length, take, drop, map, reverse, get_or, refl, sym, ap, ◌∙◌, subst, arith, ◌⊎◌, inl, inr}
use Rattle.std.specs.List.{Contains, filter}
use Rattle.std.proofs.lemmas.List.{reverse-append}
use Rattle.std.proofs.lemmas.List.Elements.{Contains-append_left, Contains-append_right, Contains-append_cases}
use Rattle.slab.proofs.SlabLemmas.{Contains-cons, Contains-cons_cases}
use Rattle.gi_lit.specs.Lists.{IsDistinct}

pub Contains-nil : {X : Type 0} (x : X) → Contains [] x → ⊥
Contains-nil x c = omega (arith, c.1)

pub Contains-head : {X : Type 0} (x : X) (xs : List X) → Contains (x ∷ xs) x
Contains-head x xs = (0, omega arith, refl)

-- what stands in the first places stands in the list
pub Contains-take : {X : Type 0} (n : ℕ) (xs : List X) (x : X) → Contains (take n xs) x → Contains xs x
Contains-take zero xs x c = absurd (Contains-nil x c)
Contains-take (suc n) [] x c = absurd (Contains-nil x c)
Contains-take (suc n) (y ∷ ys) x c = elim (Contains-cons_cases y x (take n ys) c) [ inl e ↦ subst (λ z. Contains (z ∷ ys) x) (sym e) (Contains-head x ys) | inr r ↦ Contains-cons y x ys (Contains-take n ys x r) ]

pub Contains-drop : {X : Type 0} (n : ℕ) (xs : List X) (x : X) → Contains (drop n xs) x → Contains xs x
Contains-drop zero xs x c = c
Contains-drop (suc n) [] x c = absurd (Contains-nil x c)
Contains-drop (suc n) (y ∷ ys) x c = Contains-cons y x ys (Contains-drop n ys x c)

-- an item stands nowhere before its place
pub distinct_before : (xs : List ℕ) (i d : ℕ) → IsDistinct xs → i < length xs → ¬ Contains (take i xs) (get_or xs i d)
distinct_before [] i d a lt = omega (arith, lt)
distinct_before (x ∷ xs) zero d a lt = Contains-nil _
distinct_before (x ∷ xs) (suc i) d a lt = λ c. elim (Contains-cons_cases x (get_or xs i d) (take i xs) c) [
  | inl e ↦ a.0 (i, omega arith, place (omega arith) ∙ sym e)
  | inr r ↦ distinct_before xs i d a.1 (omega arith) r
]
  where
    place : i < length xs → get_or xs i x ≡ get_or xs i d
    place l = get_or_default' xs i x d l
      where
        get_or_default' : (ys : List ℕ) (k e f : ℕ) → k < length ys → get_or ys k e ≡ get_or ys k f
        get_or_default' [] k e f l = omega (arith, l)
        get_or_default' (y ∷ ys) zero e f l = refl
        get_or_default' (y ∷ ys) (suc k) e f l = get_or_default' ys k e f (omega arith)

pub IsDistinct-append_right : (xs ys : List ℕ) → IsDistinct (xs ++ ys) → IsDistinct ys
IsDistinct-append_right [] ys d = d
IsDistinct-append_right (x ∷ xs) ys d = IsDistinct-append_right xs ys d.1

pub IsDistinct-join : (xs ys : List ℕ) → IsDistinct xs → IsDistinct ys → ((k : ℕ) → Contains xs k → ¬ Contains ys k) → IsDistinct (xs ++ ys)
IsDistinct-join [] ys a b h = b
IsDistinct-join (x ∷ xs) ys a b h =
    (λ c. elim (Contains-append_cases xs ys x c) [ inl l ↦ a.0 l | inr r ↦ h x (Contains-head x xs) r ], IsDistinct-join xs ys a.1 b (λ k c. h k (Contains-cons x k xs c)))

pub Contains-insert : (xs ys : List ℕ) (k j : ℕ) → Contains (xs ++ k ∷ ys) j → (k ≡ j) ⊎ Contains (xs ++ ys) j
Contains-insert xs ys k j c = elim (Contains-append_cases xs (k ∷ ys) j c) [
  | inl l ↦ inr (Contains-append_left xs ys j l)
  | inr r ↦ elim (Contains-cons_cases k j ys r) [ inl e ↦ inl e | inr q ↦ inr (Contains-append_right xs ys j q) ]
]

pub IsDistinct-insert : (xs ys : List ℕ) (k : ℕ) → ¬ Contains (xs ++ ys) k → IsDistinct (xs ++ ys) → IsDistinct (xs ++ k ∷ ys)
IsDistinct-insert [] ys k n d = (n, d)
IsDistinct-insert (x ∷ xs) ys k n d =
    (λ c. elim (Contains-insert xs ys k x c) [ inl e ↦ n (subst (Contains (x ∷ (xs ++ ys))) (sym e) (Contains-head x (xs ++ ys))) | inr r ↦ d.0 r ], IsDistinct-insert xs ys k (λ c. n (Contains-cons x k (xs ++ ys) c)) d.1)

pub IsDistinct-drop : (n : ℕ) (xs : List ℕ) → IsDistinct xs → IsDistinct (drop n xs)
IsDistinct-drop zero xs d = d
IsDistinct-drop (suc n) [] d = d
IsDistinct-drop (suc n) (x ∷ xs) d = IsDistinct-drop n xs d.1

pub Contains-filter : {X : Type 0} (p : X → Bool) (xs : List X) (x : X) → Contains (filter p xs) x → Contains xs x × (p x ≡ true)
Contains-filter p [] x h = absurd (Contains-nil x h)
Contains-filter {X} p (y ∷ ys) x h = go (Contains-filter p ys x) (p y) refl h
  where
    go : (Contains (filter p ys) x → Contains ys x × (p x ≡ true)) → (b : Bool) → p y ≡ b → Contains (cond b (y ∷ filter p ys) (filter p ys)) x → Contains (y ∷ ys) x × (p x ≡ true)
    go rest true e a = elim (Contains-cons_cases y x (filter p ys) a) [
      | inl q ↦ (subst (Contains (y ∷ ys)) q (Contains-head y ys), ap p (sym q) ∙ e)
      | inr c ↦ let r = rest c in (Contains-cons y x ys r.0, r.1)
    ]
    go rest false e a = let r = rest a in (Contains-cons y x ys r.0, r.1)

pub IsDistinct-filter : (p : ℕ → Bool) (xs : List ℕ) → IsDistinct xs → IsDistinct (filter p xs)
IsDistinct-filter p [] d = d
IsDistinct-filter p (x ∷ xs) d = go (p x) (IsDistinct-filter p xs d.1)
  where
    go : (b : Bool) → IsDistinct (filter p xs) → IsDistinct (cond b (x ∷ filter p xs) (filter p xs))
    go true r = (λ c. let q = Contains-filter p xs x c in d.0 q.0, r)
    go false r = r

pub map_same : {X Y : Type 0} (f g : X → Y) (xs : List X) → ((x : X) → Contains xs x → f x ≡ g x) → map f xs ≡ map g xs
map_same f g [] h = refl
map_same f g (x ∷ xs) h = ap (λ y. y ∷ map f xs) (h x (Contains-head x xs)) ∙ ap (λ ys. g x ∷ ys) (map_same f g xs (λ y c. h y (Contains-cons x y xs c)))

pub filter_alike : {X : Type 0} (p q : X → Bool) (xs : List X) → ((x : X) → Contains xs x → p x ≡ q x) → filter p xs ≡ filter q xs
filter_alike p q [] h = refl
filter_alike p q (x ∷ xs) h = ap (λ b. cond b (x ∷ filter p xs) (filter p xs)) (h x (Contains-head x xs)) ∙ ap (λ ys. cond (q x) (x ∷ ys) ys) (filter_alike p q xs (λ y c. h y (Contains-cons x y xs c)))

pub filter_of_map : {X Y : Type 0} (f : X → Y) (p : Y → Bool) (xs : List X) → filter p (map f xs) ≡ map f (filter (λ x. p (f x)) xs)
filter_of_map f p [] = refl
filter_of_map {X} {Y} f p (x ∷ xs) = go (filter_of_map f p xs) (p (f x))
  where
    go : filter p (map f xs) ≡ map f (filter (λ x. p (f x)) xs) → (b : Bool) → cond b (f x ∷ filter p (map f xs)) (filter p (map f xs)) ≡ map f (cond b (x ∷ filter (λ y. p (f y)) xs) (filter (λ y. p (f y)) xs))
    go rest true = ap (λ ys. f x ∷ ys) rest
    go rest false = rest

pub Contains-map : {X Y : Type 0} (f : X → Y) (xs : List X) (x : X) → Contains xs x → Contains (map f xs) (f x)
Contains-map f [] x c = absurd (Contains-nil x c)
Contains-map f (y ∷ ys) x c = elim (Contains-cons_cases y x ys c) [
  | inl e ↦ subst (λ z. Contains (f y ∷ map f ys) (f z)) e (Contains-head (f y) (map f ys))
  | inr r ↦ Contains-cons (f y) (f x) (map f ys) (Contains-map f ys x r)
]

pub Contains-unmap : {X Y : Type 0} (f : X → Y) (xs : List X) (y : Y) → Contains (map f xs) y → (x : X) × Contains xs x × (f x ≡ y)
Contains-unmap f [] y c = absurd (Contains-nil y c)
Contains-unmap f (x ∷ xs) y c = elim (Contains-cons_cases (f x) y (map f xs) c) [
  | inl e ↦ (x, Contains-head x xs, e)
  | inr r ↦ let q = Contains-unmap f xs y r in (q.0, Contains-cons x q.0 xs q.1, q.2)
]

pub Contains-reverse : (xs : List ℕ) (x : ℕ) → Contains xs x → Contains (reverse xs) x
Contains-reverse [] x c = c
Contains-reverse (y ∷ ys) x c = subst (λ zs. Contains zs x) (sym (reverse-append (y ∷ []) ys)) (elim (Contains-cons_cases y x ys c) [
  | inl e ↦ subst (λ z. Contains (reverse ys ++ y ∷ []) z) e (Contains-append_right (reverse ys) (y ∷ []) y (Contains-head y []))
  | inr r ↦ Contains-append_left (reverse ys) (y ∷ []) x (Contains-reverse ys x r)
])
