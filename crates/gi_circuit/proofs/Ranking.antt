-- Gates in order by level: each comes once, and behind what it stands on.
use Rattle.std.proofs.Common.{◌≡◌, ◌≢◌, ℕ, ◌+◌, ◌/◌, ◌<◌, ◌≤◌, eqb, true, false, List, length, get_or, inl, inr, ap, sym, ◌∙◌, subst, arith}
use Rattle.std.specs.List.{All, IsDistinct, range_with_len}
use Rattle.std.proofs.lemmas.Bool.Decides.{Decides-eqb, eqb_tells}
use Rattle.std.proofs.lemmas.List.FromFn.{length-range_with_len, get_or-range_with_len}
use Rattle.std.proofs.lemmas.List.Sorted.{All-permutation, IsPermutation-sym}
use Rattle.std.proofs.lemmas.Map.Keys.{IsDistinct-IsPermutation, apart_from_distinct}
use Rattle.std.proofs.lemmas.Map.Made.{IsDistinct-from_AllPairs}
use Rattle.gi_levels.proofs.Sorting.{all_below}
use Rattle.gi_aiger.specs.declared.aig.AndGate.{AndGate}
use Rattle.gi_aiger.specs.Levels as gate_levels
use Rattle.gi_aiger.specs.Levels.{gate_at}
use Rattle.gi_aiger.specs.Places.{AreLevels, AreByLevel}
use Rattle.gi_circuit.specs.Import.{var_at}

flips : (x y : ℕ) → eqb x y ≡ eqb y x
flips x y = elim (eqb_tells x y) [
  | inl t ↦ elim (eqb_tells y x) [ inl u ↦ t.0 ∙ sym u.0 | inr g ↦ absurd (g.1 (sym t.1)) ]
  | inr f ↦ elim (eqb_tells y x) [ inl u ↦ absurd (f.1 (sym u.1)) | inr g ↦ f.0 ∙ sym g.0 ]
]

module _ (gates : List AndGate) (level : ℕ → ℕ) (ps : List ℕ) (o : AreByLevel gates level ps) (a : AreLevels gates level) (apart : gate_levels.IsDistinct gates) where
  pub inside : All (λ (k : ℕ). k < length gates) ps
  inside = All-permutation (λ (k : ℕ). k < length gates) (range_with_len 0 (length gates)) ps o.all (all_below 0 (length gates) (length gates) (omega arith))

  distinct : IsDistinct eqb ps
  distinct =
      IsDistinct-IsPermutation eqb flips (range_with_len 0 (length gates)) ps o.all
      (IsDistinct-from_AllPairs Decides-eqb (range_with_len 0 (length gates)) (λ i j d lt jl e.
      let n = length-range_with_len 0 (length gates) in
      let p = get_or-range_with_len 0 (length gates) i d (omega (arith, lt, jl, n)) in
      let q = get_or-range_with_len 0 (length gates) j d (omega (arith, jl, n)) in
      omega (arith, p, q, e, lt)))

  -- a later gate is another
  pub later_other : (i j d : ℕ) → i < j → j < length ps → get_or ps i d ≢ get_or ps j d
  later_other i j d lt jl e =
      let f : eqb (get_or ps i d) (get_or ps j d) ≡ false = apart_from_distinct eqb ps i j d distinct lt jl in
      elim (eqb_tells (get_or ps i d) (get_or ps j d)) [ inl t ↦ absurd (let g : true ≡ false = sym t.0 ∙ f in cc) | inr g ↦ absurd (g.1 e) ]

  -- and defines another variable
  pub later_apart : (i j d : ℕ) → i < j → j < length ps → var_at gates (get_or ps j d) ≢ var_at gates (get_or ps i d)
  later_apart i j d lt jl e = later_other i j d lt jl (apart.apart (get_or ps i d) (get_or ps j d) (inside i d (omega (arith, lt, jl))) (inside j d jl) (sym e))

  -- a variable of a lower level than a gate is one that neither this gate nor a later one defines
  pub lower_apart : (i j x d : ℕ) → i ≤ j → j < length ps → level x < level (var_at gates (get_or ps i d)) → var_at gates (get_or ps j d) ≢ x
  lower_apart i j x d le jl lower e =
      let up = o.rises i j d le jl in
      let same = ap level e in
      omega (arith, up, same, lower)

  pub left_lower : (k : ℕ) → k < length gates → level ((gate_at gates k).rhs0 / 2) < level (var_at gates k)
  left_lower k lt = let e = a.gate k lt in omega (arith, e)

  pub right_lower : (k : ℕ) → k < length gates → level ((gate_at gates k).rhs1 / 2) < level (var_at gates k)
  right_lower k lt = let e = a.gate k lt in omega (arith, e)

  -- what holds of all gates in order holds of all
  pub all_gates : (P : ℕ → Type 0) → ((i d : ℕ) → i < length ps → P (get_or ps i d)) → (k : ℕ) → k < length gates → P k
  all_gates P h k lt =
      let n = length-range_with_len 0 (length gates) in
      let at = get_or-range_with_len 0 (length gates) k 0 lt in
      let z : 0 + k ≡ k = omega arith in
      subst P (at ∙ z) (All-permutation P ps (range_with_len 0 (length gates)) (IsPermutation-sym (range_with_len 0 (length gates)) ps o.all) h k 0 (omega (arith, lt, n)))
