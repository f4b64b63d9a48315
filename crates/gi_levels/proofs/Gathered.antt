-- The places by level are all places, and their levels don't fall.
use Rattle.std.proofs.Common.{◌≡◌, ℕ, zero, suc, ◌-◌, ◌<◌, ◌≤◌, List, [], ◌∷◌, ◌++◌, length, true, cond, inl, inr, refl, ap, sym, ◌∙◌, subst, arith, length-append}
use Rattle.std.specs.List.{filter, All}
use Rattle.std.specs.List.Sorted.{IsPermutation, IsNonDecreasingBy}
use Rattle.std.proofs.lemmas.Bool.{cases_lt, cases_eq, lt-ltb, le-ltb}
use Rattle.std.proofs.lemmas.List.{get_or_append_left, get_or-append_right}
use Rattle.std.proofs.lemmas.List.Elements.{filter_passes, All-append, All-head, All-tail, All-cons, All-nil}
use Rattle.std.proofs.lemmas.List.Sorted.{IsPermutation-refl, IsPermutation-cons, IsPermutation-trans, IsPermutation-sym, IsPermutation-middle, IsPermutation-append_left}
use Rattle.gi_levels.specs.Order.{level_of, up_to_level, by_level, places_of, OrderIsWhole, OrderRises}
use Rattle.gi_levels.proofs.Bounded.{ends_all, stays, level_at}
use Rattle.gi_levels.proofs.Sorting.{yes, no, same_number, all_bound, within_bound, at_level, within, none_within, all_within}

module _ (key : ℕ → ℕ) where
  -- those of one level more, and those below it
  parted : (n : ℕ) (xs : List ℕ) → IsPermutation (filter (within key (suc n)) xs) (filter (within key n) xs ++ filter (at_level key (suc n)) xs)
  parted n [] = IsPermutation-refl []
  parted n (x ∷ xs) =
      elim (cases_lt (key x) (suc n)) [
        | inl lt ↦
            by_ends (x ∷ filter (within key (suc n)) xs) ((x ∷ filter (within key n) xs) ++ filter (at_level key (suc n)) xs) n x xs
            (ap (λ b. cond b (x ∷ filter (within key (suc n)) xs) (filter (within key (suc n)) xs)) (lt-ltb (key x) (suc (suc n)) (omega (arith, lt))))
            (ap (λ b. cond b (x ∷ filter (within key n) xs) (filter (within key n) xs) ++ filter (at_level key (suc n)) (x ∷ xs)) (lt-ltb (key x) (suc n) lt)
            ∙ ap (λ b. (x ∷ filter (within key n) xs) ++ cond b (x ∷ filter (at_level key (suc n)) xs) (filter (at_level key (suc n)) xs)) (no (key x) (suc n) (omega (arith, lt))))
            (IsPermutation-cons x (filter (within key (suc n)) xs) (filter (within key n) xs ++ filter (at_level key (suc n)) xs) (parted n xs))
        | inr ge ↦ elim (cases_eq (key x) (suc n)) [
          | inl e ↦
              by_ends (x ∷ filter (within key (suc n)) xs) (filter (within key n) xs ++ x ∷ filter (at_level key (suc n)) xs) n x xs
              (ap (λ b. cond b (x ∷ filter (within key (suc n)) xs) (filter (within key (suc n)) xs)) (lt-ltb (key x) (suc (suc n)) (omega (arith, e))))
              (ap (λ b. cond b (x ∷ filter (within key n) xs) (filter (within key n) xs) ++ filter (at_level key (suc n)) (x ∷ xs)) (le-ltb (key x) (suc n) ge)
              ∙ ap (λ b. filter (within key n) xs ++ cond b (x ∷ filter (at_level key (suc n)) xs) (filter (at_level key (suc n)) xs)) (yes (key x) (suc n) e))
              (IsPermutation-trans (x ∷ filter (within key (suc n)) xs) (x ∷ (filter (within key n) xs ++ filter (at_level key (suc n)) xs)) (filter (within key n) xs ++ x ∷ filter (at_level key (suc n)) xs)
              (IsPermutation-cons x (filter (within key (suc n)) xs) (filter (within key n) xs ++ filter (at_level key (suc n)) xs) (parted n xs))
              (IsPermutation-sym (filter (within key n) xs ++ x ∷ filter (at_level key (suc n)) xs) (x ∷ (filter (within key n) xs ++ filter (at_level key (suc n)) xs)) (IsPermutation-middle (filter (within key n) xs) x (filter (at_level key (suc n)) xs))))
          | inr ne ↦
              by_ends (filter (within key (suc n)) xs) (filter (within key n) xs ++ filter (at_level key (suc n)) xs) n x xs
              (ap (λ b. cond b (x ∷ filter (within key (suc n)) xs) (filter (within key (suc n)) xs)) (le-ltb (key x) (suc (suc n)) (omega (arith, ge, ne))))
              (ap (λ b. cond b (x ∷ filter (within key n) xs) (filter (within key n) xs) ++ filter (at_level key (suc n)) (x ∷ xs)) (le-ltb (key x) (suc n) ge)
              ∙ ap (λ b. filter (within key n) xs ++ cond b (x ∷ filter (at_level key (suc n)) xs) (filter (at_level key (suc n)) xs)) (no (key x) (suc n) ne))
              (parted n xs)
        ]
      ]
    where
      by_ends : (us vs : List ℕ) (n x : ℕ) (xs : List ℕ) → filter (within key (suc n)) (x ∷ xs) ≡ us → filter (within key n) (x ∷ xs) ++ filter (at_level key (suc n)) (x ∷ xs) ≡ vs → IsPermutation us vs
          → IsPermutation (filter (within key (suc n)) (x ∷ xs)) (filter (within key n) (x ∷ xs) ++ filter (at_level key (suc n)) (x ∷ xs))
      by_ends us vs n x xs e f p = subst (λ (zs : List ℕ). IsPermutation zs (filter (within key n) (x ∷ xs) ++ filter (at_level key (suc n)) (x ∷ xs))) (sym e) (subst (λ (zs : List ℕ). IsPermutation us zs) (sym f) p)

  pub gathers_all : (n : ℕ) (xs : List ℕ) → All (λ y. 0 < key y) xs → IsPermutation (filter (within key n) xs) (up_to_level key xs n)
  unfolding up_to_level
  gathers_all zero xs pos = subst (λ (zs : List ℕ). IsPermutation zs []) (sym (none_within key 0 xs pos)) (IsPermutation-refl [])
  gathers_all (suc n) xs pos =
      IsPermutation-trans (filter (within key (suc n)) xs) (filter (within key n) xs ++ filter (at_level key (suc n)) xs) (up_to_level key xs n ++ filter (at_level key (suc n)) xs) (parted n xs)
      (IsPermutation-append_left (filter (at_level key (suc n)) xs) (filter (within key n) xs) (up_to_level key xs n) (gathers_all n xs pos))

  -- a list that rises up to n, and one of n + 1 behind it
  all_at : (n : ℕ) (ys : List ℕ) → All (λ y. at_level key n y ≡ true) ys → All (λ y. key y ≡ n) ys
  all_at n [] h = All-nil (λ y. key y ≡ n)
  all_at n (y ∷ ys) h = All-cons (λ y. key y ≡ n) y ys (same_number (key y) n (All-head (λ y. at_level key n y ≡ true) y ys h)) (all_at n ys (All-tail (λ y. at_level key n y ≡ true) y ys h))

  up_to_bound : (n : ℕ) (xs : List ℕ) → All (λ y. key y ≤ n) (up_to_level key xs n)
  unfolding up_to_level
  up_to_bound zero xs = All-nil (λ y. key y ≤ 0)
  up_to_bound (suc n) xs =
      All-append (λ y. key y ≤ suc n) (up_to_level key xs n) (filter (at_level key (suc n)) xs)
      (λ i d lt. let le = up_to_bound n xs i d lt in omega (arith, le))
      (λ i d lt. let e = all_at (suc n) (filter (at_level key (suc n)) xs) (filter_passes (at_level key (suc n)) xs) i d lt in omega (arith, e))

  joined_rises : (n : ℕ) (us vs : List ℕ) → IsNonDecreasingBy key us → All (λ y. key y ≤ n) us → All (λ y. key y ≡ suc n) vs → IsNonDecreasingBy key (us ++ vs)
  joined_rises n us vs up low high i j d le lt =
      let len = length-append us vs in
      elim (cases_lt j (length us)) [
        | inl jl ↦
            let p = get_or_append_left us vs d i (omega (arith, le, jl)) in
            let q = get_or_append_left us vs d j jl in
            let r = up i j d le jl in
            omega (arith, ap key p, ap key q, r)
        | inr jg ↦
            let q = ap key (get_or-append_right us vs (length us) j d refl jg) in
            let at = high (j - length us) d (omega (arith, jg, lt, len)) in
            elim (cases_lt i (length us)) [
              | inl il ↦
                  let p = ap key (get_or_append_left us vs d i il) in
                  let b = low i d il in
                  omega (arith, p, q, at, b)
              | inr ig ↦
                  let p = ap key (get_or-append_right us vs (length us) i d refl ig) in
                  let b = high (i - length us) d (omega (arith, ig, le, lt, len)) in
                  omega (arith, p, q, at, b)
            ]
      ]

  pub up_to_rises : (n : ℕ) (xs : List ℕ) → IsNonDecreasingBy key (up_to_level key xs n)
  unfolding up_to_level
  up_to_rises zero xs = λ i j d le lt. absurd (omega (arith, lt))
  up_to_rises (suc n) xs = joined_rises n (up_to_level key xs n) (filter (at_level key (suc n)) xs) (up_to_rises n xs) (up_to_bound n xs) (all_at (suc n) (filter (at_level key (suc n)) xs) (filter_passes (at_level key (suc n)) xs))

pub order_rises : OrderRises
order_rises nodes = up_to_rises (level_of nodes) (length nodes) (places_of nodes)

-- levels from 1 up to a number
first : (key : ℕ → ℕ) (n : ℕ) (zs : List ℕ) → All (λ k. (0 < key k) × (key k ≤ n)) zs → All (λ k. 0 < key k) zs
first key n zs h = λ i d lt. (h i d lt).0

second : (key : ℕ → ℕ) (n : ℕ) (zs : List ℕ) → All (λ k. (0 < key k) × (key k ≤ n)) zs → All (λ k. key k ≤ n) zs
second key n zs h = λ i d lt. (h i d lt).1

pub order_is_whole : OrderIsWhole
order_is_whole nodes h =
    let bound = all_bound (level_of nodes) 0 (length nodes) (length nodes) (omega arith) (λ k lt.
    let at = level_at nodes (length nodes) k lt in
    let still = stays nodes (length nodes) k (ends_all nodes h k) in
    (omega (arith, at, still), within_bound nodes (length nodes) k)) in
    subst (λ (xs : List ℕ). IsPermutation xs (by_level nodes)) (all_within (level_of nodes) (length nodes) (places_of nodes) (second (level_of nodes) (length nodes) (places_of nodes) bound))
    (gathers_all (level_of nodes) (length nodes) (places_of nodes) (first (level_of nodes) (length nodes) (places_of nodes) bound))
