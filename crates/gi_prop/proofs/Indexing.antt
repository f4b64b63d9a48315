use Rattle.std.proofs.Common.{◌≡◌, ◌≢◌, ℕ, zero, suc, ◌+◌, ◌-◌, ◌/◌, ◌<◌, ◌≤◌, Bool, true, false, cond, nat_eq, Option, Some, None, List, [], ◌∷◌, ◌++◌, length, get_or, set, replicate, refl, sym, ap, ◌∙◌, arith, MatchOption, inl, inr, length-append, length-set, get_or-set_other, get_or-set_same}
use Rattle.std.specs.List.{Contains, count_by}
use Rattle.std.specs.Option.{is_none}
use Rattle.std.proofs.lemmas.List.{get_or_default, get_or_append_left, get_or_push, get_or_past, length-replicate}
use Rattle.std.proofs.lemmas.List.Sums.{sum_by-set, sum_by-cons, sum_by-append, get_or-le-sum_by}
use Rattle.std.proofs.lemmas.Bool.{eqb-true, eqb-false, cases_lt, cases_eq}
use Rattle.gi_lit.specs.Literals.{opposite}
use Rattle.gi_lit.specs.Closure.{IsConsistent}
use Rattle.gi_lit.proofs.Literals.{var-opposite, opposite-differs, opposite_from_var}
use Rattle.gi_prop.specs.TrailView.{HasValue, StandsAt, IsUnassigned, AreWithin}
use Rattle.gi_prop.specs.Laid.{IsIndexed}

module _ (positions : List (Option ℕ)) (lits : List ℕ) (h : IsIndexed positions lits) where
  -- a literal of the trail has its place
  placed : (x : ℕ) → Contains lits x → (k : ℕ) × (k < length lits) × (get_or lits k 0 ≡ x) × (get_or positions (x / 2 - 1) None ≡ Some k)
  placed x c = let e : get_or lits c.0 0 ≡ x = get_or_default lits c.0 0 x c.1 ∙ c.2 in (c.0, c.1, e, rw e at (h.at c.0 c.1))

  absent : (x l : ℕ) → x / 2 ≡ l / 2 → get_or positions (l / 2 - 1) None ≡ None → ¬ Contains lits x
  absent x l e n c = let p = placed x c in let q : get_or positions (l / 2 - 1) None ≡ Some p.0 = rw e at p.3 in cc

  pub value_none : (l : ℕ) → get_or positions (l / 2 - 1) None ≡ None → HasValue lits l None
  value_none l n = (absent l l refl n, absent (opposite l) l (var-opposite l) n)

  pub value_some : (l p : ℕ) → 1 ≤ l / 2 → get_or positions (l / 2 - 1) None ≡ Some p → HasValue lits l (Some (nat_eq (get_or lits p 0) l))
  value_some l p big e = go (nat_eq (get_or lits p 0) l) refl
    where
      b : (p < length lits) × (get_or lits p 0 / 2 ≡ (l / 2 - 1) + 1)
      b = h.back (l / 2 - 1) p e

      go : (t : Bool) → nat_eq (get_or lits p 0) l ≡ t → HasValue lits l (Some t)
      go true q = (p, b.0, get_or_default lits p l 0 b.0 ∙ eqb-true _ _ q)
      go false q = (p, b.0, get_or_default lits p (opposite l) 0 b.0 ∙ opposite_from_var l (get_or lits p 0) (let x : get_or lits p 0 / 2 ≡ (l / 2 - 1) + 1 = b.1 in omega arith) (eqb-false _ _ q))

  pub place_free : (l : ℕ) → 1 ≤ l / 2 → HasValue lits l None → get_or positions (l / 2 - 1) None ≡ None
  place_free l big n = go (get_or positions (l / 2 - 1) None) refl
    where
      go : (o : Option ℕ) → get_or positions (l / 2 - 1) None ≡ o → get_or positions (l / 2 - 1) None ≡ None
      go None e = e
      go (Some p) e = let t = value_some l p big e in absurd (no (nat_eq (get_or lits p 0) l) t)
        where
          no : (t : Bool) → HasValue lits l (Some t) → ⊥
          no true c = n.0 c
          no false c = n.1 c

  -- a variable that is free leaves room
  pub room_left : (l : ℕ) → 1 ≤ l / 2 → l / 2 ≤ length positions → HasValue lits l None → length lits < length positions
  room_left l big within n =
      let e : get_or positions (l / 2 - 1) None ≡ None = place_free l big n in
      let lt : l / 2 - 1 < length positions = omega arith in
      let g : 1 ≤ count_by is_none positions = rw e at (get_or-le-sum_by (λ (o : Option ℕ). cond (is_none o) 1 0) positions (l / 2 - 1) None lt) in
      omega (arith, h.count)

  pub IsIndexed-push : (l : ℕ) → 1 ≤ l / 2 → l / 2 ≤ length positions → HasValue lits l None → IsIndexed (set positions (l / 2 - 1) (Some (length lits))) (lits ++ l ∷ [])
  IsIndexed-push l big within n = record { at = at'; back = back'; count = count' }
    where
      lt : l / 2 - 1 < length positions
      lt = omega arith

      free : get_or positions (l / 2 - 1) None ≡ None
      free = place_free l big n

      at' : (k : ℕ) → k < length (lits ++ l ∷ []) → get_or (set positions (l / 2 - 1) (Some (length lits))) (get_or (lits ++ l ∷ []) k 0 / 2 - 1) None ≡ Some k
      at' k kl = elim (cases_lt k (length lits)) [
        | inl below ↦
            let old : get_or positions (get_or lits k 0 / 2 - 1) None ≡ Some k = h.at k below in
            let other : get_or lits k 0 / 2 - 1 ≢ l / 2 - 1 = λ e. let q : get_or positions (l / 2 - 1) None ≡ Some k = rw e at old in cc (free, q) in
            rw (get_or_append_left lits (l ∷ []) 0 k below) (get_or-set_other positions (l / 2 - 1) (get_or lits k 0 / 2 - 1) (Some (length lits)) None other ∙ old)
        | inr above ↦
            let e : k ≡ length lits = omega (arith, length-append lits (l ∷ [])) in
            rw (e, get_or_push lits l 0 (length lits) refl) (get_or-set_same positions (l / 2 - 1) (Some (length lits)) None lt)
      ]

      back' : (v p : ℕ) → get_or (set positions (l / 2 - 1) (Some (length lits))) v None ≡ Some p → (p < length (lits ++ l ∷ [])) × (get_or (lits ++ l ∷ []) p 0 / 2 ≡ v + 1)
      back' v p e = elim (cases_eq v (l / 2 - 1)) [
        | inl same ↦
            let q : Some (length lits) ≡ Some p = sym (get_or-set_same positions (l / 2 - 1) (Some (length lits)) None lt) ∙ (rw same at e) in
            let r : length lits ≡ p = cc in
            (omega (arith, length-append lits (l ∷ [])), rw (← r, get_or_push lits l 0 (length lits) refl) (omega arith))
        | inr other ↦
            let q : get_or positions v None ≡ Some p = sym (get_or-set_other positions (l / 2 - 1) v (Some (length lits)) None other) ∙ e in
            let b = h.back v p q in
            let pl : p < length lits = b.0 in
            (omega (arith, length-append lits (l ∷ [])), rw (get_or_append_left lits (l ∷ []) 0 p pl) b.1)
      ]

      count' : length (lits ++ l ∷ []) + count_by is_none (set positions (l / 2 - 1) (Some (length lits))) ≡ length (set positions (l / 2 - 1) (Some (length lits)))
      count' =
          let s : count_by is_none (set positions (l / 2 - 1) (Some (length lits))) + 1 ≡ count_by is_none positions + 0 = rw free at (sum_by-set (λ (o : Option ℕ). cond (is_none o) 1 0) positions (l / 2 - 1) (Some (length lits)) None lt) in
          omega (arith, h.count, length-append lits (l ∷ []), length-set positions (l / 2 - 1) (Some (length lits)))

  -- what is read at a variable's place
  pub place_says : (v : ℕ) (o : Option ℕ) → 1 ≤ v → get_or positions (v - 1) None ≡ o → MatchOption o (IsUnassigned lits v) (StandsAt lits v)
  place_says v None big e = λ k d kl names.
      let same : get_or lits k 0 / 2 ≡ v = ap (λ (x : ℕ). x / 2) (get_or_default lits k 0 d kl) ∙ names in
      let q : get_or positions (v - 1) None ≡ Some k = rw same at (h.at k kl) in
      cc
  place_says v (Some p) big e = let b = h.back (v - 1) p e in let is : get_or lits p 0 / 2 ≡ (v - 1) + 1 = b.1 in record { below = b.0; names = omega arith }

  -- two literals of one variable stand at one place
  pub one_place : (i j : ℕ) → i < length lits → j < length lits → get_or lits i 0 / 2 ≡ get_or lits j 0 / 2 → i ≡ j
  one_place i j il jl e = let a : get_or positions (get_or lits j 0 / 2 - 1) None ≡ Some i = rw e at (h.at i il) in let b = h.at j jl in cc

  pub consistent : IsConsistent lits
  consistent = record {
    each = λ l a b.
        let p : get_or lits a.0 0 ≡ l = get_or_default lits a.0 0 l a.1 ∙ a.2 in
        let q : get_or lits b.0 0 ≡ opposite l = get_or_default lits b.0 0 (opposite l) b.1 ∙ b.2 in
        let same : a.0 ≡ b.0 = one_place a.0 b.0 a.1 b.1 (ap (λ (x : ℕ). x / 2) p ∙ sym (var-opposite l) ∙ sym (ap (λ (x : ℕ). x / 2) q)) in
        opposite-differs l (sym q ∙ sym (ap (λ (k : ℕ). get_or lits k 0) same) ∙ p);
  }

-- what is read within a list is read at one of its places
pub in_range : {A : Type 0} (positions : List (Option A)) (i : ℕ) (p : A) → get_or positions i None ≡ Some p → i < length positions
in_range positions i p e = elim (cases_lt i (length positions)) [ inl lt ↦ lt | inr le ↦ let n : get_or positions i None ≡ None = get_or_past positions i None le in cc ]

module _ (positions : List (Option ℕ)) (front : List ℕ) (l : ℕ) (h : IsIndexed positions (front ++ l ∷ [])) where
  last_place : get_or positions (l / 2 - 1) None ≡ Some (length front)
  last_place = rw (get_or_push front l 0 (length front) refl) at (h.at (length front) (omega (arith, length-append front (l ∷ []))))

  pub last_in_range : l / 2 - 1 < length positions
  last_in_range = in_range positions (l / 2 - 1) (length front) last_place

  pub IsIndexed-pop : IsIndexed (set positions (l / 2 - 1) None) front
  IsIndexed-pop = record { at = at'; back = back'; count = count' }
    where
      at' : (k : ℕ) → k < length front → get_or (set positions (l / 2 - 1) None) (get_or front k 0 / 2 - 1) None ≡ Some k
      at' k kl =
          let old : get_or positions (get_or front k 0 / 2 - 1) None ≡ Some k = rw (get_or_append_left front (l ∷ []) 0 k kl) at (h.at k (omega (arith, length-append front (l ∷ [])))) in
          let other : get_or front k 0 / 2 - 1 ≢ l / 2 - 1 = λ e. let q : get_or positions (l / 2 - 1) None ≡ Some k = rw e at old in let r : length front ≡ k = cc (last_place, q) in omega arith in
          get_or-set_other positions (l / 2 - 1) (get_or front k 0 / 2 - 1) None None other ∙ old

      back' : (v p : ℕ) → get_or (set positions (l / 2 - 1) None) v None ≡ Some p → (p < length front) × (get_or front p 0 / 2 ≡ v + 1)
      back' v p e = elim (cases_eq v (l / 2 - 1)) [
        | inl same ↦ let n : get_or (set positions (l / 2 - 1) None) (l / 2 - 1) None ≡ None = get_or-set_same positions (l / 2 - 1) None None last_in_range in let q : get_or (set positions (l / 2 - 1) None) (l / 2 - 1) None ≡ Some p = rw same at e in cc (n, q)
        | inr other ↦
            let q : get_or positions v None ≡ Some p = sym (get_or-set_other positions (l / 2 - 1) v None None other) ∙ e in
            let b = h.back v p q in
            let pl : p < length (front ++ l ∷ []) = b.0 in
            elim (cases_lt p (length front)) [
              | inl lt ↦ (lt, rw (get_or_append_left front (l ∷ []) 0 p lt) at b.1)
              | inr le ↦
                  let same_p : length front ≡ p = omega (arith, length-append front (l ∷ [])) in
                  let v_is : l / 2 ≡ v + 1 = rw (get_or_push front l 0 p same_p) at b.1 in
                  absurd (let w : v ≡ l / 2 - 1 = omega arith in other w)
            ]
      ]

      count' : length front + count_by is_none (set positions (l / 2 - 1) None) ≡ length (set positions (l / 2 - 1) None)
      count' =
          let s : count_by is_none (set positions (l / 2 - 1) None) + 0 ≡ count_by is_none positions + 1 = rw last_place at (sum_by-set (λ (o : Option ℕ). cond (is_none o) 1 0) positions (l / 2 - 1) None None last_in_range) in
          omega (arith, h.count, length-append front (l ∷ []), length-set positions (l / 2 - 1) (let o : Option ℕ = None in o))

-- each literal of the trail has a variable, which is within the places
pub IsIndexed-within : (positions : List (Option ℕ)) (lits : List ℕ) → IsIndexed positions lits → AreWithin (length positions) lits
IsIndexed-within positions lits h k d kl =
    let e : get_or lits k d ≡ get_or lits k 0 = get_or_default lits k d 0 kl in
    let r = in_range positions _ _ (h.at k kl) in
    let b = h.back _ _ (h.at k kl) in
    rw e (omega (arith, b.1), omega (arith, r, b.1))

none_at : {A : Type 0} (m i : ℕ) → get_or (replicate m (let o : Option A = None in o)) i None ≡ None
none_at zero i = refl
none_at (suc m) zero = refl
none_at (suc m) (suc i) = none_at m i

pub none_more : {A : Type 0} (positions : List (Option A)) (m i : ℕ) → get_or (positions ++ replicate m None) i None ≡ get_or positions i None
none_more [] m i = none_at m i
none_more (p ∷ ps) m zero = refl
none_more (p ∷ ps) m (suc i) = none_more ps m i

count_none : (m : ℕ) → count_by (is_none {T = ℕ}) (replicate m None) ≡ m
count_none zero = refl
count_none (suc m) = sum_by-cons (λ (o : Option ℕ). cond (is_none o) 1 0) None (replicate m None) ∙ omega (arith, count_none m)

-- with places that hold nothing
pub IsIndexed-grow : (positions : List (Option ℕ)) (lits : List ℕ) (m : ℕ) → IsIndexed positions lits → IsIndexed (positions ++ replicate m None) lits
IsIndexed-grow positions lits m h = record {
  at = λ k kl. none_more positions m _ ∙ h.at k kl;
  back = λ v p e. h.back v p (sym (none_more positions m v) ∙ e);
  count =
      let a : count_by is_none (positions ++ replicate m None) ≡ count_by is_none positions + count_by is_none (replicate m None) = sum_by-append (λ (o : Option ℕ). cond (is_none o) 1 0) positions (replicate m None) in
      omega (arith, a, count_none m, h.count, length-append positions (replicate m None), length-replicate m (let o : Option ℕ = None in o));
}
