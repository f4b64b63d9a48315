-- Good values can be made circuits of: each variable is defined once, and within the greatest.
use Rattle.std.proofs.Common.{◌≡◌, ◌≢◌, ℕ, ◌+◌, ◌/◌, ◌<◌, ◌≤◌, List, [], ◌∷◌, ◌++◌, length, map, get_or, inl, inr, ap, sym, ◌∙◌, subst, arith, length-append}
use Rattle.std.specs.List.{All, AllPairs}
use Rattle.std.proofs.lemmas.Bool.{cases_lt}
use Rattle.std.proofs.lemmas.List.{length-map, get_or-map, get_or_append_left, get_or-append-add, get_or_default}
use Rattle.std.proofs.lemmas.List.Kept.{AllPairs-cons}
use Rattle.gi_aiger.specs.declared.aig.Aig.{Aig}
use Rattle.gi_aiger.specs.declared.aig.AndGate.{AndGate}
use Rattle.gi_aiger.specs.declared.aig.Latch.{Latch}
use Rattle.gi_aiger.specs.declared.head.Form.TheVariants.{Ascii}
use Rattle.gi_aiger.specs.Good.{IsGood}
use Rattle.gi_aiger.specs.Relation as said
use Rattle.gi_aiger.proofs.Limiting.{are_within}
use Rattle.gi_aiger.proofs.Sounding.{variables_are, defining_all}
use Rattle.gi_aiger.specs.Levels.{HasLevels, IsDistinct}
use Rattle.gi_circuit.specs.Import.{var_at}
use Rattle.gi_circuit.specs.Importable.{IsImportable}

all_left : {X : Type 0} (P : X → Type 0) (xs ys : List X) → All P (xs ++ ys) → All P xs
all_left P xs ys h k d lt = subst P (get_or_append_left xs ys d k lt) (h k d (omega (arith, lt, length-append xs ys)))

all_right : {X : Type 0} (P : X → Type 0) (xs ys : List X) → All P (xs ++ ys) → All P ys
all_right P xs ys h k d lt = subst P (get_or-append-add xs ys k d) (h (length xs + k) d (omega (arith, lt, length-append xs ys)))

once_pairs : (xs : List ℕ) → said.AreOnce xs → AllPairs (λ a b. a ≢ b) xs
once_pairs [] once = λ i j d lt jl e. omega arith
once_pairs (x ∷ xs) once = AllPairs-cons (λ a b. a ≢ b) x xs (λ k d lt e. once.0 (k, lt, get_or_default xs k x d lt ∙ sym e)) (once_pairs xs once.1)

module _ (v : Aig) (g : IsGood v) where
  abbrev s : said.IsSound v
  s = g.sound

  abbrev lits : List ℕ
  lits = map (λ (l : Latch). l.lit) v.latches

  abbrev lhss : List ℕ
  lhss = map (λ (x : AndGate). x.lhs) v.gates

  pub inputs_defining : All (said.IsDefining v.max) v.inputs
  inputs_defining = all_left (said.IsDefining v.max) v.inputs lits (all_left (said.IsDefining v.max) (v.inputs ++ lits) lhss s.defining)

  pub latches_defining : (k : ℕ) (d : Latch) → k < length v.latches → said.IsDefining v.max (get_or v.latches k d).lit
  latches_defining k d lt = subst (said.IsDefining v.max) (get_or-map (λ (l : Latch). l.lit) v.latches k d d.lit lt) (all_right (said.IsDefining v.max) v.inputs lits (all_left (said.IsDefining v.max) (v.inputs ++ lits) lhss s.defining) k d.lit (omega (arith, lt, length-map v.latches (λ (l : Latch). l.lit))))

  pub gates_defining : (k : ℕ) (d : AndGate) → k < length v.gates → said.IsDefining v.max (get_or v.gates k d).lhs
  gates_defining k d lt = subst (said.IsDefining v.max) (get_or-map (λ (x : AndGate). x.lhs) v.gates k d d.lhs lt) (all_right (said.IsDefining v.max) (v.inputs ++ lits) lhss s.defining k d.lhs (omega (arith, lt, length-map v.gates (λ (x : AndGate). x.lhs))))

  -- all literals that define, and the variable of the one at a place
  abbrev all : List ℕ
  all = (v.inputs ++ lits) ++ lhss

  once : AllPairs (λ a b. a ≢ b) (map (λ l. l / 2) all)
  once = once_pairs (map (λ l. l / 2) all) (subst said.AreOnce (variables_are (said.rows_of v) ∙ ap (map (λ l. l / 2)) (defining_all v)) s.once)

  length-all : length all ≡ length v.inputs + length v.latches + length v.gates
  length-all = length-append (v.inputs ++ lits) lhss ∙ omega (arith, length-append v.inputs lits, length-map v.latches (λ (l : Latch). l.lit), length-map v.gates (λ (x : AndGate). x.lhs))

  -- two places that define the same variable are one
  same_place : (j k : ℕ) → j < length all → k < length all → get_or all j 0 / 2 ≡ get_or all k 0 / 2 → j ≡ k
  same_place j k jl kl e =
      let n = length-map all (λ l. l / 2) in
      let at : (i : ℕ) → i < length all → get_or (map (λ l. l / 2) all) i 0 ≡ get_or all i 0 / 2 = λ i lt. get_or-map (λ l. l / 2) all i 0 0 lt in
      elim (cases_lt j k) [
        | inl lt ↦ absurd (once j k 0 lt (omega (arith, kl, n)) (at j jl ∙ e ∙ sym (at k kl)))
        | inr ge ↦ elim (cases_lt k j) [
          | inl lt ↦ absurd (once k j 0 lt (omega (arith, jl, n)) (at k kl ∙ sym e ∙ sym (at j jl)))
          | inr le ↦ omega arith
        ]
      ]

  input_at : (k : ℕ) → k < length v.inputs → get_or all k 0 ≡ get_or v.inputs k 0
  input_at k lt = get_or_append_left (v.inputs ++ lits) lhss 0 k (omega (arith, lt, length-append v.inputs lits)) ∙ get_or_append_left v.inputs lits 0 k lt

  latch_at : (k : ℕ) (d : Latch) → k < length v.latches → get_or all (length v.inputs + k) 0 ≡ (get_or v.latches k d).lit
  latch_at k d lt =
      get_or_append_left (v.inputs ++ lits) lhss 0 (length v.inputs + k) (omega (arith, lt, length-append v.inputs lits, length-map v.latches (λ (l : Latch). l.lit)))
      ∙ get_or-append-add v.inputs lits k 0
      ∙ get_or-map (λ (l : Latch). l.lit) v.latches k d 0 lt

  gate_at : (k : ℕ) (d : AndGate) → k < length v.gates → get_or all (length v.inputs + length v.latches + k) 0 ≡ (get_or v.gates k d).lhs
  gate_at k d lt =
      ap (λ (i : ℕ). get_or all (i + k) 0) (let n = length-append v.inputs lits in let m = length-map v.latches (λ (l : Latch). l.lit) in let e : length v.inputs + length v.latches ≡ length (v.inputs ++ lits) = omega (arith, n, m) in e)
      ∙ get_or-append-add (v.inputs ++ lits) lhss k 0
      ∙ get_or-map (λ (x : AndGate). x.lhs) v.gates k d 0 lt

  pub inputs_apart : (j k : ℕ) → j < length v.inputs → k < length v.inputs → get_or v.inputs j 0 / 2 ≡ get_or v.inputs k 0 / 2 → j ≡ k
  inputs_apart j k jl kl e =
      same_place j k (omega (arith, jl, length-all)) (omega (arith, kl, length-all)) (ap (λ (x : ℕ). x / 2) (input_at j jl) ∙ e ∙ sym (ap (λ (x : ℕ). x / 2) (input_at k kl)))

  pub latches_apart : (j k : ℕ) (d : Latch) → j < length v.latches → k < length v.latches → (get_or v.latches j d).lit / 2 ≡ (get_or v.latches k d).lit / 2 → j ≡ k
  latches_apart j k d jl kl e =
      let p = same_place (length v.inputs + j) (length v.inputs + k) (omega (arith, jl, length-all)) (omega (arith, kl, length-all)) (ap (λ (x : ℕ). x / 2) (latch_at j d jl) ∙ e ∙ sym (ap (λ (x : ℕ). x / 2) (latch_at k d kl))) in
      omega (arith, p)

  pub gates_apart : IsDistinct v.gates
  gates_apart = record {
    apart = λ j k jl kl e.
        let d : AndGate = record { lhs = 0; rhs0 = 0; rhs1 = 0 } in
        let p = same_place (length v.inputs + length v.latches + j) (length v.inputs + length v.latches + k) (omega (arith, jl, length-all)) (omega (arith, kl, length-all)) (ap (λ (x : ℕ). x / 2) (gate_at j (record { lhs = 0; rhs0 = 0; rhs1 = 0 }) jl) ∙ e ∙ sym (ap (λ (x : ℕ). x / 2) (gate_at k (record { lhs = 0; rhs0 = 0; rhs1 = 0 }) kl))) in
        omega (arith, p);
  }

  pub input_no_latch : (j k : ℕ) (d : Latch) → j < length v.inputs → k < length v.latches → (get_or v.latches k d).lit / 2 ≢ get_or v.inputs j 0 / 2
  input_no_latch j k d jl kl e =
      let p = same_place j (length v.inputs + k) (omega (arith, jl, length-all)) (omega (arith, kl, length-all)) (ap (λ (x : ℕ). x / 2) (input_at j jl) ∙ sym e ∙ sym (ap (λ (x : ℕ). x / 2) (latch_at k d kl))) in
      omega (arith, p, jl)

  pub input_no_gate : (j k : ℕ) → j < length v.inputs → k < length v.gates → var_at v.gates k ≢ get_or v.inputs j 0 / 2
  input_no_gate j k jl kl e =
      let p = same_place j (length v.inputs + length v.latches + k) (omega (arith, jl, length-all)) (omega (arith, kl, length-all)) (ap (λ (x : ℕ). x / 2) (input_at j jl) ∙ sym e ∙ sym (ap (λ (x : ℕ). x / 2) (gate_at k (record { lhs = 0; rhs0 = 0; rhs1 = 0 }) kl))) in
      omega (arith, p, jl)

  pub latch_no_gate : (j k : ℕ) (d : Latch) → j < length v.latches → k < length v.gates → var_at v.gates k ≢ (get_or v.latches j d).lit / 2
  latch_no_gate j k d jl kl e =
      let p = same_place (length v.inputs + j) (length v.inputs + length v.latches + k) (omega (arith, jl, length-all)) (omega (arith, kl, length-all)) (ap (λ (x : ℕ). x / 2) (latch_at j d jl) ∙ sym e ∙ sym (ap (λ (x : ℕ). x / 2) (gate_at k (record { lhs = 0; rhs0 = 0; rhs1 = 0 }) kl))) in
      omega (arith, p, jl)

  pub gates_within : (k : ℕ) → k < length v.gates → var_at v.gates k ≤ v.max
  gates_within k lt = let d = gates_defining k (record { lhs = 0; rhs0 = 0; rhs1 = 0 }) lt in let le = d.2 in omega arith

  pub gates_acyclic : HasLevels v.gates
  gates_acyclic = s.levels

  pub importable : IsImportable v
  importable =
      let w = are_within (said.head_of_aig Ascii v) g.within in
      let most = w.max in
      let outs = w.outs in
      let bads = w.bads in
      let cons = w.cons in
      let fits = g.fits in
      record {
        room = omega (arith, fits, most);
        outs = omega (arith, outs);
        bads = omega (arith, bads);
        cons = omega (arith, cons);
        within = gates_within;
        apart = gates_apart;
        acyclic = gates_acyclic;
      }
