-- A stable sort by level puts the places level by level.
use Rattle.std.proofs.Common.{◌≡◌, ◌≢◌, ℕ, zero, suc, ◌+◌, ◌<◌, ◌≤◌, List, [], ◌∷◌, ◌++◌, length, get_or, Bool, true, false, cond, inl, inr, refl, ap, sym, ◌∙◌, subst, arith}
use Rattle.std.specs.Prelude.{◌&&◌, ◌==◌, nat_lt, not}
use Rattle.std.specs.List.{range_with_len, filter, All}
use Rattle.std.specs.List.Sorted.{IsPermutation, IsNonDecreasingBy, IsStableByKey, ties}
use Rattle.std.specs.Ordering.{nat_cmp, is_lt}
use Rattle.std.proofs.lemmas.Bool.{cases_lt, cases_eq, lt-ltb, le-ltb}
use Rattle.std.proofs.lemmas.Bool.Decides.{eqb_tells}
use Rattle.std.proofs.lemmas.List.Elements.{filter_agree, filter_passes, All-head, All-tail, All-cons, All-nil}
use Rattle.std.proofs.lemmas.List.Sorted.{All-permutation}
use Rattle.gi_levels.specs.declared.levels.Node.{Node}
use Rattle.gi_levels.specs.Levels.{node_at, AreLevels}
use Rattle.gi_levels.specs.Order.{level_of, levels_of, level_within, up_to_level, by_level, places_of}
use Rattle.gi_levels.proofs.Bounded.{told_at, level_at, level_past}

-- counting up, with one more
pub count_more : (a n : ℕ) → range_with_len a (suc n) ≡ range_with_len a n ++ (a + n) ∷ []
count_more a zero = ap (λ (x : ℕ). x ∷ []) (omega arith)
count_more a (suc n) = ap (λ (xs : List ℕ). a ∷ xs) (count_more (a + 1) n ∙ ap (λ (x : ℕ). range_with_len (a + 1) n ++ x ∷ []) (omega arith))

pub all_below : (a n m : ℕ) → a + n ≤ m → All (λ k. k < m) (range_with_len a n)
all_below a zero m le = All-nil (λ k. k < m)
all_below a (suc n) m le = All-cons (λ k. k < m) a (range_with_len (a + 1) n) (omega (arith, le)) (all_below (a + 1) n m (omega (arith, le)))

-- tests on a number
pub yes : (a b : ℕ) → a ≡ b → (a == b) ≡ true
yes a b e = elim (eqb_tells a b) [ inl t ↦ t.0 | inr f ↦ absurd (f.1 e) ]

pub no : (a b : ℕ) → a ≢ b → (a == b) ≡ false
no a b n = elim (eqb_tells a b) [ inl t ↦ absurd (n t.1) | inr f ↦ f.0 ]

pub same_number : (a b : ℕ) → (a == b) ≡ true → a ≡ b
same_number a b e = elim (eqb_tells a b) [ inl t ↦ t.1 | inr f ↦ absurd (let g = f.0 in cc) ]

-- numbers tie exactly where they are the same
abbrev tied : ℕ → ℕ → Bool
tied a b = not (is_lt (nat_cmp a b)) && not (is_lt (nat_cmp b a))

less : (a b : ℕ) → a < b → is_lt (nat_cmp a b) ≡ true
less a b lt = rw (lt-ltb a b lt) refl

not_less : (a b : ℕ) → b < a → is_lt (nat_cmp a b) ≡ false
not_less a b lt = rw (le-ltb a b (omega (arith, lt)), no a b (omega (arith, lt))) refl

not_same : (a b : ℕ) → a ≡ b → is_lt (nat_cmp a b) ≡ false
not_same a b e = rw (le-ltb a b (omega (arith, e)), yes a b e) refl

by_lesser : (a b l : ℕ) → a ≡ l → a < b → tied a b ≡ (b == l)
by_lesser a b l e lt = rw (less a b lt) (sym (no b l (omega (arith, e, lt))))

by_greater : (a b l : ℕ) → a ≡ l → b < a → tied a b ≡ (b == l)
by_greater a b l e lt = rw (not_less a b lt, less b a lt) (sym (no b l (omega (arith, e, lt))))

by_same : (a b l : ℕ) → a ≡ l → a ≡ b → tied a b ≡ (b == l)
by_same a b l e s = rw (not_same a b s, not_same b a (sym s)) (sym (yes b l (sym s ∙ e)))

ties_are : (key : ℕ → ℕ) (x y l : ℕ) → key x ≡ l → ties (λ a b. is_lt (nat_cmp (key a) (key b))) x y ≡ (key y == l)
ties_are key x y l e = elim (cases_lt (key x) (key y)) [
  | inl lt ↦ by_lesser (key x) (key y) l e lt
  | inr ge ↦ elim (cases_lt (key y) (key x)) [
    | inl lt ↦ by_greater (key x) (key y) l e lt
    | inr le ↦ by_same (key x) (key y) l e (omega (arith, ge, le))
  ]
]

module _ (key : ℕ → ℕ) where
  abbrev pub at_level : ℕ → ℕ → Bool
  at_level l k = key k == l

  -- both lists have the same of a level, where either has one
  of_one : (xs ys : List ℕ) → IsStableByKey key nat_cmp xs ys → (l x : ℕ) → key x ≡ l → filter (at_level l) ys ≡ filter (at_level l) xs
  of_one xs ys st l x e =
      filter_agree (at_level l) (ties (λ a b. is_lt (nat_cmp (key a) (key b))) x) (λ y. sym (ties_are key x y l e)) ys
      ∙ st x
      ∙ filter_agree (ties (λ a b. is_lt (nat_cmp (key a) (key b))) x) (at_level l) (λ y. ties_are key x y l e) xs

  of_none : (xs ys : List ℕ) → IsStableByKey key nat_cmp xs ys → (l : ℕ) (us vs : List ℕ) → filter (at_level l) ys ≡ us → filter (at_level l) xs ≡ vs → filter (at_level l) ys ≡ filter (at_level l) xs
  of_none xs ys st l [] [] e f = e ∙ sym f
  of_none xs ys st l [] (v ∷ vs) e f =
      let p = All-head (λ x. at_level l x ≡ true) v vs (subst (λ (zs : List ℕ). All (λ x. at_level l x ≡ true) zs) f (filter_passes (at_level l) xs)) in
      of_one xs ys st l v (same_number (key v) l p)
  of_none xs ys st l (u ∷ us) vs e f =
      let p = All-head (λ x. at_level l x ≡ true) u us (subst (λ (zs : List ℕ). All (λ x. at_level l x ≡ true) zs) e (filter_passes (at_level l) ys)) in
      of_one xs ys st l u (same_number (key u) l p)

  up_to_same : (xs ys : List ℕ) → IsStableByKey key nat_cmp xs ys → (n : ℕ) → up_to_level key ys n ≡ up_to_level key xs n
  unfolding up_to_level
  up_to_same xs ys st zero = refl
  up_to_same xs ys st (suc n) =
      ap (λ (zs : List ℕ). zs ++ filter (at_level (suc n)) ys) (up_to_same xs ys st n)
      ∙ ap (λ (zs : List ℕ). up_to_level key xs n ++ zs) (of_none xs ys st (suc n) (filter (at_level (suc n)) ys) (filter (at_level (suc n)) xs) refl refl)

  -- those up to a level
  abbrev pub within : ℕ → ℕ → Bool
  within n k = nat_lt (key k) (suc n)

  pub data Rises : List ℕ → Type 0 where
    nothing : Rises []
    one_more : (x : ℕ) (xs : List ℕ) → All (λ y. key x ≤ key y) xs → Rises xs → Rises (x ∷ xs)

  pub none_within : (n : ℕ) (ys : List ℕ) → All (λ y. n < key y) ys → filter (within n) ys ≡ []
  none_within n [] h = refl
  none_within n (y ∷ ys) h =
      let lt = All-head (λ y. n < key y) y ys h in
      ap (λ b. cond b (y ∷ filter (within n) ys) (filter (within n) ys)) (le-ltb (key y) (suc n) (omega (arith, lt))) ∙ none_within n ys (All-tail (λ y. n < key y) y ys h)

  weaker : (a n : ℕ) (ys : List ℕ) → n < a → All (λ y. a ≤ key y) ys → All (λ y. n < key y) ys
  weaker a n [] lt h = All-nil (λ y. n < key y)
  weaker a n (y ∷ ys) lt h =
      let le = All-head (λ y. a ≤ key y) y ys h in
      All-cons (λ y. n < key y) y ys (omega (arith, lt, le)) (weaker a n ys lt (All-tail (λ y. a ≤ key y) y ys h))

  abbrev keep : (ℕ → Bool) → ℕ → List ℕ → List ℕ
  keep p y ys = cond (p y) (y ∷ filter p ys) (filter p ys)

  -- one level more goes behind those below it
  split : (n : ℕ) (ys : List ℕ) → Rises ys → filter (within (suc n)) ys ≡ filter (within n) ys ++ filter (at_level (suc n)) ys
  split n [] r = refl
  split n (y ∷ ys) (one_more _ _ low r) = elim (cases_lt (key y) (suc n)) [
    | inl lt ↦
        ap (λ b. cond b (y ∷ filter (within (suc n)) ys) (filter (within (suc n)) ys)) (lt-ltb (key y) (suc (suc n)) (omega (arith, lt)))
        ∙ ap (λ (zs : List ℕ). y ∷ zs) (split n ys r)
        ∙ sym (ap (λ b. cond b (y ∷ filter (within n) ys) (filter (within n) ys) ++ keep (at_level (suc n)) y ys) (lt-ltb (key y) (suc n) lt)
        ∙ ap (λ b. (y ∷ filter (within n) ys) ++ cond b (y ∷ filter (at_level (suc n)) ys) (filter (at_level (suc n)) ys)) (no (key y) (suc n) (omega (arith, lt))))
    | inr ge ↦
        let none = none_within n ys (weaker (key y) n ys (omega (arith, ge)) low) in
        let right : keep (within n) y ys ≡ [] = ap (λ b. cond b (y ∷ filter (within n) ys) (filter (within n) ys)) (le-ltb (key y) (suc n) ge) ∙ none in
        elim (cases_eq (key y) (suc n)) [
          | inl e ↦
              ap (λ b. cond b (y ∷ filter (within (suc n)) ys) (filter (within (suc n)) ys)) (lt-ltb (key y) (suc (suc n)) (omega (arith, e)))
              ∙ ap (λ (zs : List ℕ). y ∷ zs) (split n ys r ∙ ap (λ (zs : List ℕ). zs ++ filter (at_level (suc n)) ys) none)
              ∙ sym (ap (λ (zs : List ℕ). zs ++ keep (at_level (suc n)) y ys) right ∙ ap (λ b. cond b (y ∷ filter (at_level (suc n)) ys) (filter (at_level (suc n)) ys)) (yes (key y) (suc n) e))
          | inr ne ↦
              ap (λ b. cond b (y ∷ filter (within (suc n)) ys) (filter (within (suc n)) ys)) (le-ltb (key y) (suc (suc n)) (omega (arith, ge, ne)))
              ∙ split n ys r ∙ ap (λ (zs : List ℕ). zs ++ filter (at_level (suc n)) ys) none
              ∙ sym (ap (λ (zs : List ℕ). zs ++ keep (at_level (suc n)) y ys) right ∙ ap (λ b. cond b (y ∷ filter (at_level (suc n)) ys) (filter (at_level (suc n)) ys)) (no (key y) (suc n) ne))
        ]
  ]

  -- what rises is level by level
  gathers : (n : ℕ) (ys : List ℕ) → Rises ys → All (λ y. 0 < key y) ys → up_to_level key ys n ≡ filter (within n) ys
  unfolding up_to_level
  gathers zero ys r pos = sym (none_within 0 ys pos)
  gathers (suc n) ys r pos = ap (λ (zs : List ℕ). zs ++ filter (at_level (suc n)) ys) (gathers n ys r pos) ∙ sym (split n ys r)

  pub all_within : (n : ℕ) (ys : List ℕ) → All (λ y. key y ≤ n) ys → filter (within n) ys ≡ ys
  all_within n [] h = refl
  all_within n (y ∷ ys) h =
      let le = All-head (λ y. key y ≤ n) y ys h in
      ap (λ b. cond b (y ∷ filter (within n) ys) (filter (within n) ys)) (lt-ltb (key y) (suc n) (omega (arith, le))) ∙ ap (λ (zs : List ℕ). y ∷ zs) (all_within n ys (All-tail (λ y. key y ≤ n) y ys h))

  -- from positions
  above : (a : ℕ) (ys : List ℕ) → ((j : ℕ) → j < length ys → a ≤ key (get_or ys j 0)) → All (λ y. a ≤ key y) ys
  above a [] h = All-nil (λ y. a ≤ key y)
  above a (y ∷ ys) h = All-cons (λ y. a ≤ key y) y ys (h 0 (omega arith)) (above a ys (λ j lt. h (suc j) (omega (arith, lt))))

  rises : (ys : List ℕ) → ((i j : ℕ) → i ≤ j → j < length ys → key (get_or ys i 0) ≤ key (get_or ys j 0)) → Rises ys
  rises [] h = nothing
  rises (y ∷ ys) h = one_more y ys (above (key y) ys (λ j lt. h 0 (suc j) (omega arith) (omega (arith, lt)))) (rises ys (λ i j le lt. h (suc i) (suc j) (omega (arith, le)) (omega (arith, lt))))

  -- a stable sort by level
  pub sorted_is : (xs ys : List ℕ) (n : ℕ) → All (λ k. (0 < key k) × (key k ≤ n)) xs → IsPermutation xs ys → IsNonDecreasingBy key ys → IsStableByKey key nat_cmp xs ys → ys ≡ up_to_level key xs n
  sorted_is xs ys n bound perm up st =
      let all = All-permutation (λ k. (0 < key k) × (key k ≤ n)) xs ys perm bound in
      let r = rises ys (λ i j le lt. up i j 0 le lt) in
      sym (all_within n ys (second n ys all)) ∙ sym (gathers n ys r (first n ys all)) ∙ up_to_same xs ys st n
    where
      first : (n : ℕ) (zs : List ℕ) → All (λ k. (0 < key k) × (key k ≤ n)) zs → All (λ k. 0 < key k) zs
      first n [] h = All-nil (λ k. 0 < key k)
      first n (z ∷ zs) h = All-cons (λ k. 0 < key k) z zs (All-head (λ k. (0 < key k) × (key k ≤ n)) z zs h).0 (first n zs (All-tail (λ k. (0 < key k) × (key k ≤ n)) z zs h))

      second : (n : ℕ) (zs : List ℕ) → All (λ k. (0 < key k) × (key k ≤ n)) zs → All (λ k. key k ≤ n) zs
      second n [] h = All-nil (λ k. key k ≤ n)
      second n (z ∷ zs) h = All-cons (λ k. key k ≤ n) z zs (All-head (λ k. (0 < key k) × (key k ≤ n)) z zs h).1 (second n zs (All-tail (λ k. (0 < key k) × (key k ≤ n)) z zs h))

-- the places from 0 on have these levels
pub all_bound : (key : ℕ → ℕ) (a n m : ℕ) → a + n ≤ m → ((k : ℕ) → k < m → (0 < key k) × (key k ≤ m)) → All (λ k. (0 < key k) × (key k ≤ m)) (range_with_len a n)
all_bound key a zero m le h = All-nil (λ k. (0 < key k) × (key k ≤ m))
all_bound key a (suc n) m le h = All-cons (λ k. (0 < key k) × (key k ≤ m)) a (range_with_len (a + 1) n) (h a (omega (arith, le))) (all_bound key (a + 1) n m (omega (arith, le)) h)

-- levels lie between 1 and the number of gates
zero_steps : (nodes : List Node) (k : ℕ) → level_within nodes 0 k ≡ 0
unfolding level_within
zero_steps nodes k = refl

pub within_bound : (nodes : List Node) (n k : ℕ) → level_within nodes n k ≤ n
within_bound nodes zero k = omega (arith, zero_steps nodes k)
within_bound nodes (suc n) k = elim (cases_lt k (length nodes)) [
  | inl lt ↦ omega (arith, level_at nodes n k lt, within_bound nodes n (node_at nodes k).left, within_bound nodes n (node_at nodes k).right)
  | inr ge ↦ omega (arith, level_past nodes (suc n) k ge)
]

pub levels_bound : (nodes : List Node) (levels : List ℕ) → AreLevels nodes levels → levels ≡ levels_of nodes → (k : ℕ) → k < length levels → (0 < get_or levels k 0) × (get_or levels k 0 ≤ length levels)
levels_bound nodes levels h e k lt =
    let at : get_or levels k 0 ≡ level_of nodes k = ap (λ (xs : List ℕ). get_or xs k 0) e ∙ told_at nodes k in
    let b = within_bound nodes (length nodes) k in
    let x = h.each k (omega (arith, lt, h.len)) in
    (omega (arith, x), omega (arith, at, b, h.len))

-- the same levels, the same order
agree : (f g : ℕ → ℕ) → ((k : ℕ) → f k ≡ g k) → (xs : List ℕ) (n : ℕ) → up_to_level f xs n ≡ up_to_level g xs n
unfolding up_to_level
agree f g h xs zero = refl
agree f g h xs (suc n) =
    ap (λ (zs : List ℕ). zs ++ filter (λ k. f k == suc n) xs) (agree f g h xs n)
    ∙ ap (λ (zs : List ℕ). up_to_level g xs n ++ zs) (filter_agree (λ k. f k == suc n) (λ k. g k == suc n) (λ k. ap (λ (m : ℕ). m == suc n) (h k)) xs)

pub same_order : (nodes : List Node) (levels : List ℕ) → AreLevels nodes levels → levels ≡ levels_of nodes → up_to_level (λ k. get_or levels k 0) (range_with_len 0 (length levels)) (length levels) ≡ by_level nodes
same_order nodes levels h e =
    ap (λ (m : ℕ). up_to_level (λ k. get_or levels k 0) (range_with_len 0 m) m) h.len
    ∙ agree (λ k. get_or levels k 0) (level_of nodes) (λ k. ap (λ (xs : List ℕ). get_or xs k 0) e ∙ told_at nodes k) (places_of nodes) (length nodes)
