-- Gates that were put in order by level are in order as they stand, and so numbering anew changes nothing more.
use Rattle.std.proofs.Common.{◌≡◌, ℕ, zero, suc, ◌+◌, ◌*◌, ◌-◌, ◌/◌, ◌%◌, ◌<◌, ◌≤◌, max, min, List, length, map, get_or, inl, inr, ap, sym, ◌∙◌, subst, arith}
use Rattle.std.specs.List.{All}
use Rattle.std.proofs.lemmas.Bool.{cases_lt}
use Rattle.std.proofs.lemmas.Bool.Decides.{eqb_tells}
use Rattle.std.proofs.lemmas.List.{length-map, get_or-map}
use Rattle.std.proofs.lemmas.List.Sorted.{All-permutation, IsPermutation-sym}
use Rattle.gi_aiger.specs.declared.aig.Aig.{Aig}
use Rattle.gi_aiger.specs.declared.aig.AndGate.{AndGate}
use Rattle.gi_aiger.specs.Levels.{gate_at}
use Rattle.gi_aiger.specs.Places.{AreLevels, variable_level}
use Rattle.gi_aiger.proofs.Resolving.{gates_have_levels}
use Rattle.gi_aiger_binary.specs.Renumbering.{place_among, number_in, variables_of, literal_by, gate_by, renumbered, in_order, numbered_anew}
use Rattle.gi_aiger_binary.specs.Sound.{IsReadable, IsWritable}
use Rattle.gi_aiger_binary.proofs.InOrder.{var_at, IsByLevel, ordered_is}
use Rattle.gi_aiger_binary.proofs.Renumbered.{length-variables}
use Rattle.gi_aiger_binary.proofs.Placing.{place_at, gates_permuted}
use Rattle.gi_aiger_binary.proofs.Numberings.{gate_number, gate_place, level_at, level_over, levels_rise, number_below, is_numbered}
use Rattle.gi_aiger_binary.proofs.InPlace.{in_place}
use Rattle.gi_aiger_binary.proofs.Deserved.{good_writable}
use Rattle.gi_aiger_binary.proofs.Reread.{numbered_good}
use Rattle.gi_aiger_binary.proofs.Fixed.{fixed}

half_of : (n l : ℕ) → (2 * n + l % 2) / 2 ≡ n
half_of n l = omega arith

-- of two operands the greater level, in either order
either_order : (f : ℕ → ℕ) (a b : ℕ) → max (f (max a b / 2)) (f (min a b / 2)) ≡ max (f (a / 2)) (f (b / 2))
either_order f a b = elim (cases_lt a b) [
  | inl lt ↦
      (let m : max a b ≡ b = omega arith in
      let n : min a b ≡ a = omega arith in
      ap (λ (x : ℕ). max (f (x / 2)) (f (min a b / 2))) m ∙ ap (λ (x : ℕ). max (f (b / 2)) (f (x / 2))) n ∙ omega arith)
  | inr le ↦
      (let m : max a b ≡ a = omega arith in
      let n : min a b ≡ b = omega arith in
      ap (λ (x : ℕ). max (f (x / 2)) (f (min a b / 2))) m ∙ ap (λ (x : ℕ). max (f (a / 2)) (f (x / 2))) n)
]

module _ (v : Aig) (ordered : List AndGate) (o : IsByLevel v.gates ordered) (s : IsReadable v) where
  abbrev vs : List ℕ
  vs = variables_of v ordered

  abbrev front : ℕ
  front = length v.inputs + length v.latches

  abbrev gs : List AndGate
  gs = map (gate_by (number_in vs)) ordered

  abbrev lev : ℕ → ℕ
  lev k = level_at v ordered o s k

  length-gs : length gs ≡ length ordered
  length-gs = length-map ordered (gate_by (number_in vs))

  gate_is : (k : ℕ) → k < length ordered → gate_at gs k ≡ gate_by (number_in vs) (gate_at ordered k)
  gate_is k lt = get_or-map (gate_by (number_in vs)) ordered k (record { lhs = 0; rhs0 = 0; rhs1 = 0 }) (record { lhs = 0; rhs0 = 0; rhs1 = 0 }) lt

  var_is : (k : ℕ) → k < length ordered → var_at gs k ≡ suc (front + k)
  var_is k lt = ap (λ (g : AndGate). g.lhs / 2) (gate_is k lt) ∙ half_of (number_in vs ((gate_at ordered k).lhs / 2)) (gate_at ordered k).lhs ∙ gate_number v ordered o s k (record { lhs = 0; rhs0 = 0; rhs1 = 0 }) lt

  -- what a gate defines stands behind inputs and latches, and nothing else does
  gates_far : All (λ (g : AndGate). front < number_in vs (g.lhs / 2)) v.gates
  gates_far = All-permutation (λ (g : AndGate). front < number_in vs (g.lhs / 2)) ordered v.gates (IsPermutation-sym v.gates ordered (gates_permuted v.gates ordered o)) (λ k d lt. (let n = gate_number v ordered o s k d lt in omega (arith, n)))

  record Found (x : ℕ) : Type 0 where
    place : ℕ
    inside : place < length ordered
    here : (gate_at ordered place).lhs / 2 ≡ x
    number : number_in vs x ≡ suc (front + place)

  found : (x : ℕ) → front < number_in vs x → Found x
  found x far = elim (eqb_tells x 0) [
    | inl t ↦ absurd (let none : front < 0 = rw t.0 at far in omega arith)
    | inr f ↦ behind (rw f.0 at far)
  ] where
    behind : front < place_among vs x → Found x
    behind far =
        let r = place_at vs x (place_among vs x - 1) (let e : place_among vs x ≡ suc (place_among vs x - 1) = omega arith in e) in
        let n = length-variables v ordered in
        let inside = r.0 in
        let jl : place_among vs x - 1 - front < length ordered = omega (arith, n, inside) in
        let at : (gate_at ordered (place_among vs x - 1 - front)).lhs / 2 ≡ x =
        sym (gate_place v ordered o s (place_among vs x - 1 - front) (record { lhs = 0; rhs0 = 0; rhs1 = 0 }) jl) ∙ ap (λ (i : ℕ). get_or vs i 0) (let e : front + (place_among vs x - 1 - front) ≡ place_among vs x - 1 = omega arith in e) ∙ r.1 in
        record {
          place = place_among vs x - 1 - front;
          inside = jl;
          here = at;
          number = ap (number_in vs) (sym at) ∙ gate_number v ordered o s (place_among vs x - 1 - front) (record { lhs = 0; rhs0 = 0; rhs1 = 0 }) jl;
        }

  old_zero : (x : ℕ) → number_in vs x ≤ front → o.level x ≡ 0
  old_zero x le = o.levels.other x (λ k lt e. (let far = gates_far k (record { lhs = 0; rhs0 = 0; rhs1 = 0 }) lt in let there : front < number_in vs x = subst (λ (y : ℕ). front < number_in vs y) e far in omega (arith, there)))

  module _ (level : ℕ → ℕ) (a : AreLevels gs level) where
    new_zero : (x : ℕ) → x ≤ front → level x ≡ 0
    new_zero x le = a.other x (λ k lt e. (let n = var_is k (omega (arith, lt, length-gs)) in omega (arith, n, e)))

    same_level : (k : ℕ) → k < length ordered → ((j : ℕ) → j < k → level (var_at gs j) ≡ lev j) → (x : ℕ) → o.level x < lev k → level (number_in vs x) ≡ o.level x
    same_level k lt before x low = elim (cases_lt front (number_in vs x)) [
      | inr le ↦ new_zero (number_in vs x) le ∙ sym (old_zero x le)
      | inl far ↦
          (let f = found x far in
          let below = number_below v ordered o s k x lt low in
          let is = f.number in
          ap level (f.number ∙ sym (var_is f.place f.inside)) ∙ before f.place (omega (arith, below, is)) ∙ ap o.level f.here)
    ]

    gate_level : (k : ℕ) → k < length ordered → ((j : ℕ) → j < k → level (var_at gs j) ≡ lev j) → level (var_at gs k) ≡ lev k
    gate_level k lt before =
        let over = level_over v ordered o s k lt in
        let g = gate_at ordered k in
        a.gate k (omega (arith, lt, length-gs))
        ∙ ap (λ (g : AndGate). suc (max (level (g.rhs0 / 2)) (level (g.rhs1 / 2)))) (gate_is k lt)
        ∙ ap suc (either_order level (literal_by (number_in vs) (gate_at ordered k).rhs0) (literal_by (number_in vs) (gate_at ordered k).rhs1))
        ∙ ap (λ (x : ℕ). suc (max (level x) (level (literal_by (number_in vs) (gate_at ordered k).rhs1 / 2)))) (half_of (number_in vs ((gate_at ordered k).rhs0 / 2)) (gate_at ordered k).rhs0)
        ∙ ap (λ (x : ℕ). suc (max (level (number_in vs ((gate_at ordered k).rhs0 / 2))) (level x))) (half_of (number_in vs ((gate_at ordered k).rhs1 / 2)) (gate_at ordered k).rhs1)
        ∙ ap (λ (x : ℕ). suc (max x (level (number_in vs ((gate_at ordered k).rhs1 / 2))))) (same_level k lt before ((gate_at ordered k).rhs0 / 2) (omega (arith, over)))
        ∙ ap (λ (x : ℕ). suc (max (o.level ((gate_at ordered k).rhs0 / 2)) x)) (same_level k lt before ((gate_at ordered k).rhs1 / 2) (omega (arith, over)))
        ∙ sym over

    gate_levels : (n k : ℕ) → k < n → k < length ordered → level (var_at gs k) ≡ lev k
    gate_levels zero k kn lt = absurd (omega arith)
    gate_levels (suc n) k kn lt = gate_level k lt (λ j jk. gate_levels n j (omega arith) (omega arith))

    pub levels_in_order : (i j : ℕ) → i ≤ j → j < length gs → level (var_at gs i) ≤ level (var_at gs j)
    levels_in_order i j le lt =
        let jl : j < length ordered = omega (arith, lt, length-gs) in
        let a = gate_levels (suc i) i (omega arith) (omega arith) in
        let b = gate_levels (suc j) j (omega arith) jl in
        let up = levels_rise v ordered o s i j le jl in
        omega (arith, a, b, up)

  pub stays : IsWritable (renumbered v ordered) → numbered_anew (renumbered v ordered) ≡ renumbered v ordered
  stays w =
      let are = gates_have_levels gs w.apart w.levels in
      ap (renumbered (renumbered v ordered)) (in_place gs w.apart w.levels (levels_in_order (variable_level gs) are.0))
      ∙ fixed (renumbered v ordered) (is_numbered v ordered o s)

pub numbers_stay : (v : Aig) → IsWritable v → IsReadable v → numbered_anew (numbered_anew v) ≡ numbered_anew v
numbers_stay v w sound =
    stays v (in_order v.gates) (ordered_is v.gates w.apart w.levels) sound (good_writable (numbered_anew v) (numbered_good v w sound).0).0
