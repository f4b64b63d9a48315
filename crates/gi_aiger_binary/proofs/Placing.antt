-- The numbers of variables that are defined once each, and gates behind their operands.
use Rattle.std.proofs.Common.{◌≡◌, ◌≢◌, ℕ, zero, suc, ◌+◌, ◌*◌, ◌/◌, ◌<◌, ◌≤◌, eqb, true, false, cond, List, [], ◌∷◌, ◌++◌, length, map, get_or, ◌⊎◌, inl, inr, refl, ap, sym, ◌∙◌, subst, arith}
use Rattle.std.specs.Prelude.{◌==◌}
use Rattle.std.specs.List.{AllPairs, AllByRecursion, IsDistinct, range_with_len}
use Rattle.std.specs.List.Sorted.{IsPermutation}
use Rattle.std.proofs.lemmas.Bool.{ne_eqb}
use Rattle.std.proofs.lemmas.Bool.Decides.{Decides-eqb, eqb_tells}
use Rattle.std.proofs.lemmas.List.{length-map, get_or-map, ext_get_or}
use Rattle.std.proofs.lemmas.List.FromFn.{length-range_with_len, get_or-range_with_len}
use Rattle.std.proofs.lemmas.List.Sorted.{IsPermutation-map, IsPermutation-append_right}
use Rattle.std.proofs.lemmas.Map.Keys.{IsDistinct-IsPermutation, IsDistinct-head, IsDistinct-tail}
use Rattle.std.proofs.lemmas.Map.Made.{IsDistinct-from_AllPairs}
use Rattle.gi_aiger.specs.declared.aig.Aig.{Aig}
use Rattle.gi_aiger.specs.declared.aig.AndGate.{AndGate}
use Rattle.gi_aiger.specs.declared.aig.Latch.{Latch}
use Rattle.gi_aiger.specs.Levels.{gate_at}
use Rattle.gi_aiger_binary.specs.Renumbering.{further, place_among, number_in, variables_of}
use Rattle.gi_aiger_binary.specs.Numbered.{evens_from}
use Rattle.gi_aiger_binary.proofs.InOrder.{IsByLevel}

-- what stands at a place
pub place_at : (vs : List ℕ) (x k : ℕ) → place_among vs x ≡ suc k → (k < length vs) × (get_or vs k 0 ≡ x)
unfolding place_among
place_at [] x k e = absurd (omega arith)
place_at (v ∷ vs) x k e = by_test (λ j is. place_at vs x j is) (eqb_tells v x) e where
  behind : ((j : ℕ) → place_among vs x ≡ suc j → (j < length vs) × (get_or vs j 0 ≡ x)) → (p : ℕ) → place_among vs x ≡ p → further p ≡ suc k → (k < length (v ∷ vs)) × (get_or (v ∷ vs) k 0 ≡ x)
  behind ih zero is e = absurd (omega arith)
  behind ih (suc j) is e =
      let same : suc j ≡ k = omega arith in
      let r = ih j is in
      (omega (arith, r.0), subst (λ (i : ℕ). get_or (v ∷ vs) i 0 ≡ x) same r.1)

  by_test : ((j : ℕ) → place_among vs x ≡ suc j → (j < length vs) × (get_or vs j 0 ≡ x)) → ((eqb v x ≡ true) × (v ≡ x)) ⊎ ((eqb v x ≡ false) × (v ≢ x)) → cond (v == x) 1 (further (place_among vs x)) ≡ suc k → (k < length (v ∷ vs)) × (get_or (v ∷ vs) k 0 ≡ x)
  by_test ih (inl t) e =
      let one : 1 ≡ suc k = rw t.0 at e in
      let none : 0 ≡ k = omega arith in
      (omega arith, subst (λ (i : ℕ). get_or (v ∷ vs) i 0 ≡ x) none t.1)
  by_test ih (inr f) e = behind ih (place_among vs x) refl (rw f.0 at e)

each_of : (P : ℕ → Type 0) (xs : List ℕ) (k : ℕ) → AllByRecursion P xs → k < length xs → P (get_or xs k 0)
each_of P [] k all lt = absurd (omega arith)
each_of P (x ∷ xs) zero all lt = all.0
each_of P (x ∷ xs) (suc k) all lt = each_of P xs k all.1 (omega arith)

-- a variable that stands once has its place
pub place_is : (vs : List ℕ) (k : ℕ) → IsDistinct eqb vs → k < length vs → place_among vs (get_or vs k 0) ≡ suc k
unfolding place_among
place_is [] k d lt = absurd (omega arith)
place_is (v ∷ vs) zero d lt = elim (eqb_tells v v) [ inl t ↦ rw t.0 refl | inr f ↦ absurd (f.1 refl) ]
place_is (v ∷ vs) (suc k) d lt =
    rw (each_of (λ y. eqb v y ≡ false) vs k (IsDistinct-head eqb v vs d) (omega arith), place_is vs k (IsDistinct-tail eqb v vs d) (omega arith)) refl

pub number_is : (vs : List ℕ) (k x : ℕ) → IsDistinct eqb vs → k < length vs → get_or vs k 0 ≡ x → 0 < x → number_in vs x ≡ suc k
number_is vs k x d lt e some = rw (ne_eqb x 0 (λ n. omega arith)) (ap (place_among vs) (sym e) ∙ place_is vs k d lt)

-- literals that are even, one behind the other
pub evens_at : {X : Type 0} (f : X → ℕ) (xs : List X) (v : ℕ) → ((k : ℕ) (d : X) → k < length xs → f (get_or xs k d) ≡ 2 * (v + k)) → map f xs ≡ evens_from v (length xs)
evens_at f [] v each = refl
evens_at {X} f (x ∷ xs) v each =
    ap (λ (n : ℕ). n ∷ map f xs) (each 0 x (omega arith) ∙ (let e : 2 * (v + 0) ≡ 2 * v = omega arith in e))
    ∙ ap (λ (ns : List ℕ). 2 * v ∷ ns) (evens_at f xs (suc v) (λ k d lt. each (suc k) d (omega arith) ∙ (let e : 2 * (v + suc k) ≡ 2 * (suc v + k) = omega arith in e)))

-- all gates, in their order and in another
pub all_again : (gates : List AndGate) → map (gate_at gates) (range_with_len 0 (length gates)) ≡ gates
all_again gates =
    let m = length-map (range_with_len 0 (length gates)) (gate_at gates) in
    let n = length-range_with_len 0 (length gates) in
    ext_get_or (record { lhs = 0; rhs0 = 0; rhs1 = 0 }) (map (gate_at gates) (range_with_len 0 (length gates))) gates (m ∙ n) (λ k lt.
    get_or-map (gate_at gates) (range_with_len 0 (length gates)) k 0 (record { lhs = 0; rhs0 = 0; rhs1 = 0 }) (omega (arith, lt, m))
    ∙ ap (gate_at gates) (let p = get_or-range_with_len 0 (length gates) k 0 (omega (arith, lt, m, n)) in let e : get_or (range_with_len 0 (length gates)) k 0 ≡ k = omega (arith, p) in e))

pub gates_permuted : (gates ordered : List AndGate) → IsByLevel gates ordered → IsPermutation gates ordered
gates_permuted gates ordered o =
    subst (IsPermutation gates) (sym o.are)
    (subst (λ (gs : List AndGate). IsPermutation gs (map (gate_at gates) o.places)) (all_again gates)
    (IsPermutation-map (gate_at gates) (range_with_len 0 (length gates)) o.places o.order.all))

pub flips : (x y : ℕ) → eqb x y ≡ eqb y x
flips x y = elim (eqb_tells x y) [
  | inl t ↦ elim (eqb_tells y x) [ inl u ↦ t.0 ∙ sym u.0 | inr g ↦ absurd (g.1 (sym t.1)) ]
  | inr f ↦ elim (eqb_tells y x) [ inl u ↦ absurd (f.1 (sym u.1)) | inr g ↦ f.0 ∙ sym g.0 ]
]

pub variables_distinct : (v : Aig) (ordered : List AndGate) → IsByLevel v.gates ordered → AllPairs (λ a b. a ≢ b) (variables_of v v.gates) → IsDistinct eqb (variables_of v ordered)
variables_distinct v ordered o once =
    IsDistinct-IsPermutation eqb flips (variables_of v v.gates) (variables_of v ordered)
    (IsPermutation-append_right (map (λ l. l / 2) v.inputs ++ map (λ (l : Latch). l.lit / 2) v.latches) (map (λ (g : AndGate). g.lhs / 2) v.gates) (map (λ (g : AndGate). g.lhs / 2) ordered) (IsPermutation-map (λ (g : AndGate). g.lhs / 2) v.gates ordered (gates_permuted v.gates ordered o)))
    (IsDistinct-from_AllPairs Decides-eqb (variables_of v v.gates) once)
