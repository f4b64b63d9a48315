use Rattle.std.proofs.Common.{◌≡◌, ℕ, ◌+◌, ◌-◌, ◌/◌, ◌%◌, ◌==◌, ◌<◌, ◌≤◌, Bool, true, false, not, Option, Some, None, List, [], ◌∷◌, ◌++◌, length, get_or, set, replicate, refl, sym, ap, ◌∙◌, arith, inl, inr, length-append, length-set, get_or-set_other, get_or-set_same}
use mathlib.Core.Bool.{beq}
use Rattle.std.specs.List.{Contains}
use Rattle.std.proofs.lemmas.List.{get_or_read, get_or_default, get_or_append_left, get_or_push, length-replicate}
use Rattle.std.proofs.lemmas.Bool.{cases_eq}
use Rattle.gi_lit.specs.Literals.{opposite}
use Rattle.gi_lit.proofs.Literals.{opposite_from_var}
use Rattle.gi_prop.specs.TrailView.{HasValue}
use Rattle.gi_prop.specs.Laid.{IsIndexed, IsTable, value_at}
use Rattle.gi_prop.proofs.Indexing.{IsIndexed-push, IsIndexed-pop, IsIndexed-grow, last_in_range, value_none, none_more}

-- two literals of one variable with the same sign are one
same_sign : (l m : ℕ) → m / 2 ≡ l / 2 → (m % 2 == 0) ≡ (l % 2 == 0) → m ≡ l
same_sign l m v s = grind arith

pub even_is_not_odd : (l : ℕ) → not (l % 2 == 1) ≡ (l % 2 == 0)
even_is_not_odd l = grind arith

-- a literal is true where its variable has its sign, as the code asks it
pub sign_is : (l : ℕ) (b n : Bool) → n ≡ (l % 2 == 1) → not (beq b n) ≡ true → b ≡ (l % 2 == 0)
sign_is l true true e q = absurd (cc)
sign_is l true false e q = grind arith
sign_is l false true e q = grind arith
sign_is l false false e q = absurd (cc)

pub sign_differs : (l : ℕ) (b n : Bool) → n ≡ (l % 2 == 1) → not (beq b n) ≡ false → b ≡ (l % 2 == 0) → ⊥
sign_differs l true true e q s = grind arith
sign_differs l true false e q s = cc
sign_differs l false true e q s = cc
sign_differs l false false e q s = grind arith

-- what a read of a value says
pub read_value : (values : List (Option Bool)) (l v i : ℕ) (r o : Option Bool) → v ≡ l / 2 → i ≡ v → i - 1 < length values → r ≡ get_or values (i - 1) r → r ≡ o → get_or values (l / 2 - 1) None ≡ o
read_value values l v i r o a b lt e f = rw (← a, ← b) (sym (get_or_read values (i - 1) r lt e None) ∙ f)

module _ (positions : List (Option ℕ)) (lits : List ℕ) (values : List (Option Bool)) (t : IsTable positions lits values) where
  -- what is read where no value is
  pub reads_none : (l : ℕ) → get_or values (l / 2 - 1) None ≡ None → HasValue lits l None
  reads_none l e = go (get_or positions (l / 2 - 1) None) refl
    where
      at : value_at lits (get_or positions (l / 2 - 1) None) ≡ None
      at = sym (t.valued.each (l / 2 - 1)) ∙ e

      go : (o : Option ℕ) → get_or positions (l / 2 - 1) None ≡ o → HasValue lits l None
      go None q = value_none positions lits t.indexed l q
      go (Some p) q = absurd (let z : value_at lits (Some p) ≡ None = rw q at at in cc)

  -- where one is, a literal with its sign stands in the trail
  stands : (l : ℕ) (b : Bool) → get_or values (l / 2 - 1) None ≡ Some b → (p : ℕ) × (p < length lits) × (get_or lits p 0 / 2 ≡ (l / 2 - 1) + 1) × ((get_or lits p 0 % 2 == 0) ≡ b)
  stands l b e = go (get_or positions (l / 2 - 1) None) refl
    where
      at : value_at lits (get_or positions (l / 2 - 1) None) ≡ Some b
      at = sym (t.valued.each (l / 2 - 1)) ∙ e

      go : (o : Option ℕ) → get_or positions (l / 2 - 1) None ≡ o → (p : ℕ) × (p < length lits) × (get_or lits p 0 / 2 ≡ (l / 2 - 1) + 1) × ((get_or lits p 0 % 2 == 0) ≡ b)
      go None q = absurd (let z : value_at lits None ≡ Some b = rw q at at in cc)
      go (Some p) q =
          let z : value_at lits (Some p) ≡ Some b = rw q at at in
          let sign : (get_or lits p 0 % 2 == 0) ≡ b = cc in
          let w = t.indexed.back (l / 2 - 1) p q in
          (p, w.0, w.1, sign)

  pub reads_true : (l : ℕ) (b : Bool) → 1 ≤ l / 2 → get_or values (l / 2 - 1) None ≡ Some b → b ≡ (l % 2 == 0) → Contains lits l
  reads_true l b big e s =
      let w = stands l b e in
      let v : get_or lits w.0 0 / 2 ≡ (l / 2 - 1) + 1 = w.2 in
      (w.0, w.1, get_or_default lits w.0 l 0 w.1 ∙ same_sign l (get_or lits w.0 0) (omega arith) (w.3 ∙ s))

  pub reads_false : (l : ℕ) (b : Bool) → 1 ≤ l / 2 → get_or values (l / 2 - 1) None ≡ Some b → (b ≡ (l % 2 == 0) → ⊥) → Contains lits (opposite l)
  reads_false l b big e s =
      let w = stands l b e in
      let v : get_or lits w.0 0 / 2 ≡ (l / 2 - 1) + 1 = w.2 in
      (w.0, w.1, get_or_default lits w.0 (opposite l) 0 w.1 ∙ opposite_from_var l (get_or lits w.0 0) (omega arith) (λ q. s (sym w.3 ∙ ap (λ (x : ℕ). x % 2 == 0) q)))

  pub reads_some : (l : ℕ) (b r : Bool) → 1 ≤ l / 2 → get_or values (l / 2 - 1) None ≡ Some b → (r ≡ true → b ≡ (l % 2 == 0)) → (r ≡ false → b ≡ (l % 2 == 0) → ⊥) → HasValue lits l (Some r)
  reads_some l b true big e is differs = reads_true l b big e (is refl)
  reads_some l b false big e is differs = reads_false l b big e (differs refl)

  -- a literal more
  pub IsTable-push : (l n : ℕ) (b : Bool) → n ≡ length lits → b ≡ (l % 2 == 0) → 1 ≤ l / 2 → l / 2 ≤ length positions → HasValue lits l None → IsTable (set positions (l / 2 - 1) (Some n)) (lits ++ l ∷ []) (set values (l / 2 - 1) (Some b))
  IsTable-push l n b ne be big within free = rw (ne, be) (record {
    indexed = IsIndexed-push positions lits t.indexed l big within free;
    valued = record { count = rw (length-set, length-set) t.valued.count; each = each' };
  })
    where
      lt : l / 2 - 1 < length positions
      lt = omega arith

      vlt : l / 2 - 1 < length values
      vlt = rw t.valued.count lt

      last : get_or (lits ++ l ∷ []) (length lits) 0 ≡ l
      last = get_or_push lits l 0 (length lits) refl

      old : (v : ℕ) (o : Option ℕ) → get_or positions v None ≡ o → value_at lits o ≡ value_at (lits ++ l ∷ []) o
      old v None q = refl
      old v (Some p) q = let w = t.indexed.back v p q in rw (get_or_append_left lits (l ∷ []) 0 p w.0) refl

      each' : (v : ℕ) → get_or (set values (l / 2 - 1) (Some (l % 2 == 0))) v None ≡ value_at (lits ++ l ∷ []) (get_or (set positions (l / 2 - 1) (Some (length lits))) v None)
      each' v = elim (cases_eq v (l / 2 - 1)) [
        | inl same ↦
            let a : get_or (set values (l / 2 - 1) (Some (l % 2 == 0))) (l / 2 - 1) None ≡ Some (l % 2 == 0) = get_or-set_same values (l / 2 - 1) (Some (l % 2 == 0)) None vlt in
            let c : get_or (set positions (l / 2 - 1) (Some (length lits))) (l / 2 - 1) None ≡ Some (length lits) = get_or-set_same positions (l / 2 - 1) (Some (length lits)) None lt in
            rw (same, a, c, last) refl
        | inr other ↦
            let a : get_or (set values (l / 2 - 1) (Some (l % 2 == 0))) v None ≡ get_or values v None = get_or-set_other values (l / 2 - 1) v (Some (l % 2 == 0)) None other in
            let c : get_or (set positions (l / 2 - 1) (Some (length lits))) v None ≡ get_or positions v None = get_or-set_other positions (l / 2 - 1) v (Some (length lits)) None other in
            rw (a, c) (t.valued.each v ∙ old v (get_or positions v None) refl)
      ]

  -- variables more, which have no value
  pub IsTable-grow : (m : ℕ) → IsTable (positions ++ replicate m None) lits (values ++ replicate m None)
  IsTable-grow m = record {
    indexed = IsIndexed-grow positions lits m t.indexed;
    valued = record {
      count = omega (arith, t.valued.count, length-append values (replicate m None), length-append positions (replicate m None), length-replicate m (let o : Option ℕ = None in o), length-replicate m (let o : Option Bool = None in o));
      each = λ v. none_more values m v ∙ t.valued.each v ∙ ap (value_at lits) (sym (none_more positions m v));
    };
  }

module _ (positions : List (Option ℕ)) (front : List ℕ) (l : ℕ) (values : List (Option Bool)) (t : IsTable positions (front ++ l ∷ []) values) where
  pub last_value_in_range : l / 2 - 1 < length values
  last_value_in_range = rw t.valued.count (last_in_range positions front l t.indexed)

  -- without the last literal
  pub IsTable-pop : IsTable (set positions (l / 2 - 1) None) front (set values (l / 2 - 1) None)
  IsTable-pop = record {
    indexed = popped;
    valued = record { count = rw (length-set, length-set) t.valued.count; each = each' };
  }
    where
      popped : IsIndexed (set positions (l / 2 - 1) None) front
      popped = IsIndexed-pop positions front l t.indexed

      lt : l / 2 - 1 < length positions
      lt = last_in_range positions front l t.indexed

      old : (v : ℕ) (o : Option ℕ) → get_or (set positions (l / 2 - 1) None) v None ≡ o → value_at (front ++ l ∷ []) o ≡ value_at front o
      old v None q = refl
      old v (Some p) q = let w = popped.back v p q in rw (get_or_append_left front (l ∷ []) 0 p w.0) refl

      each' : (v : ℕ) → get_or (set values (l / 2 - 1) None) v None ≡ value_at front (get_or (set positions (l / 2 - 1) None) v None)
      each' v = elim (cases_eq v (l / 2 - 1)) [
        | inl same ↦
            let a : get_or (set values (l / 2 - 1) None) (l / 2 - 1) None ≡ None = get_or-set_same values (l / 2 - 1) None None last_value_in_range in
            let c : get_or (set positions (l / 2 - 1) None) (l / 2 - 1) None ≡ None = get_or-set_same positions (l / 2 - 1) None None lt in
            rw (same, a, c) refl
        | inr other ↦
            let a : get_or (set values (l / 2 - 1) None) v None ≡ get_or values v None = get_or-set_other values (l / 2 - 1) v None None other in
            let c : get_or (set positions (l / 2 - 1) None) v None ≡ get_or positions v None = get_or-set_other positions (l / 2 - 1) v None None other in
            let d : value_at (front ++ l ∷ []) (get_or positions v None) ≡ value_at front (get_or positions v None) = old v (get_or positions v None) c in
            rw (a, c) (t.valued.each v ∙ d)
      ]
