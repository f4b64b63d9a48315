-- The places of variables in an order, one variable more at a time.
use Rattle.std.proofs.Common.{◌≡◌, ℕ, zero, suc, ◌+◌, ◌≤◌, Bool, true, false, ◌&&◌, not, cond, List, [], ◌∷◌, ◌++◌, length, refl, ap, sym, ◌∙◌, arith}
use Rattle.std.specs.Prelude.{◌==◌}
use Rattle.std.proofs.lemmas.Bool.{ne_eqb}
use Rattle.gi_aiger_binary.specs.Renumbering.{further, place_among, number_in}
use Rattle.gi_aiger_binary.specs.Numbers.{noted}

-- a place, or else another number
abbrev or_else : ℕ → ℕ → ℕ
or_else zero other = other
or_else (suc place) other = suc place

pub place-push : (vs : List ℕ) (v x : ℕ) → place_among (vs ++ v ∷ []) x ≡ or_else (place_among vs x) (cond (v == x) (suc (length vs)) 0)
unfolding place_among
place-push [] v x = by_test (v == x) where
  by_test : (b : Bool) → ◌≡◌ {A = ℕ} (cond b 1 0) (cond b 1 0)
  by_test b = refl
place-push (u ∷ vs) v x = by_test (u == x) (place_among vs x) (place_among (vs ++ v ∷ []) x) (v == x) (place-push vs v x) where
  one_more : (p : ℕ) (c : Bool) → further (or_else p (cond c (suc (length vs)) 0)) ≡ or_else (further p) (cond c (suc (suc (length vs))) 0)
  one_more zero true = refl
  one_more zero false = refl
  one_more (suc p) c = refl

  by_test : (b : Bool) (p q : ℕ) (c : Bool) → q ≡ or_else p (cond c (suc (length vs)) 0) → cond b 1 (further q) ≡ or_else (cond b 1 (further p)) (cond c (suc (suc (length vs))) 0)
  by_test true p q c h = refl
  by_test false p q c h = ap further h ∙ one_more p c

pub number-none : (x : ℕ) → number_in [] x ≡ 0
unfolding place_among
number-none x = by_test (x == 0) where
  by_test : (b : Bool) → ◌≡◌ {A = ℕ} (cond b 0 0) 0
  by_test true = refl
  by_test false = refl

pub place_bound : (vs : List ℕ) (x : ℕ) → place_among vs x ≤ length vs
unfolding place_among
place_bound [] x = omega arith
place_bound (v ∷ vs) x = by_test (v == x) (place_among vs x) (place_bound vs x) where
  by_test : (b : Bool) (p : ℕ) → p ≤ length vs → cond b 1 (further p) ≤ suc (length vs)
  by_test true p h = omega arith
  by_test false zero h = omega arith
  by_test false (suc p) h = omega arith

pub number_bound : (vs : List ℕ) (x : ℕ) → number_in vs x ≤ length vs
number_bound vs x = by_test (x == 0) where
  by_test : (b : Bool) → cond b 0 (place_among vs x) ≤ length vs
  by_test true = omega arith
  by_test false = place_bound vs x

-- one variable more is numbered
pub number-push : (numbers : ℕ → ℕ) (vs : List ℕ) (v n x : ℕ) → n ≡ length vs + 1 → numbers x ≡ number_in vs x → noted numbers v n x ≡ number_in (vs ++ v ∷ []) x
number-push numbers vs v n x e h = ap (λ (k : ℕ). cond (((v == x) && not (x == 0)) && (k == 0)) n k) h ∙ by_test (v == x) (x == 0) (place_among vs x) (place_among (vs ++ v ∷ []) x) (place-push vs v x) where
  by_test : (c z : Bool) (p q : ℕ) → q ≡ or_else p (cond c (suc (length vs)) 0) → cond ((c && not z) && (cond z 0 p == 0)) n (cond z 0 p) ≡ cond z 0 q
  by_test true true p q h = refl
  by_test false true p q h = refl
  by_test false false zero q h = sym h
  by_test false false (suc p) q h = sym h
  by_test true false zero q h = e ∙ (let one : length vs + 1 ≡ suc (length vs) = omega arith in one) ∙ sym h
  by_test true false (suc p) q h = rw (ne_eqb (suc p) 0 (λ e. omega arith)) (sym h)
