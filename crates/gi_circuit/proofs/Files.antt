-- The circuit that is made of a good value means the file.
use Rattle.std.proofs.Common.{◌≡◌, ◌≢◌, ℕ, ◌+◌, ◌-◌, ◌/◌, ◌%◌, ◌<◌, ◌≤◌, Bool, false, List, [], ◌∷◌, ◌++◌, length, map, get_or, take, replicate, refl, sym, ap, ◌∙◌, subst, arith, inl, inr, append_assoc}
use Rattle.std.specs.Prelude.{◌&&◌}
use Rattle.std.specs.List.{All, fold}
use Rattle.std.proofs.lemmas.Bool.{cases_eq}
use Rattle.std.proofs.lemmas.List.{get_or-replicate, length-replicate, length-take-le, get_or_default, append-nil}
use Rattle.gi_lit.specs.Literals.{opposite}
use Rattle.gi_lit.proofs.Literals.{opposite-opposite}
use Rattle.gi_aiger.specs.declared.aig.Aig.{Aig}
use Rattle.gi_aiger.specs.declared.aig.AndGate.{AndGate}
use Rattle.gi_aiger.specs.declared.aig.Latch.{Latch}
use Rattle.gi_aiger.specs.declared.aig.Reset.{Reset}
use Rattle.gi_aiger.specs.declared.aig.Reset.TheVariants.{Zero}
use Rattle.gi_aiger.specs.Good.{IsGood}
use Rattle.gi_circuit.specs.Values.{value_in}
use Rattle.gi_circuit.specs.Nodes.{node_values}
use Rattle.gi_circuit.specs.Frames.{edge_of}
use Rattle.gi_aiger.specs.Levels.{gate_at}
use Rattle.gi_aiger.specs.Places.{AreLevels, AreByLevel, variable_level, places_by_level}
use Rattle.gi_aiger.proofs.Resolving.{gates_have_levels}
use Rattle.gi_circuit.specs.Import.{var_at, Imported, imported_none, with_input_of, with_latch_of, with_gate_of, system_of, circuit_of}
use Rattle.gi_circuit.specs.Files.{latch_at, AreValues, MeansFile}
use Rattle.gi_circuit.proofs.Meaning.{value_in-zero, value_in-opposite}
use Rattle.gi_circuit.proofs.Importing.{input_latches, latch_latches, gate_latches}
use Rattle.gi_circuit.proofs.Holding.{holds, Fits, Defines, input_defines, latch_defines, gate_defines, fits_all, stays, stays_from, defined_at}
use Rattle.gi_circuit.proofs.Ranking.{inside, later_apart, lower_apart, left_lower, right_lower, all_gates}
use Rattle.gi_circuit.proofs.Goodness.{inputs_defining, latches_defining, gates_defining, inputs_apart, latches_apart, gates_apart, input_no_latch, input_no_gate, latch_no_gate, gates_within, gates_acyclic}

-- the edge of the other literal is the negation
opposite_even : (l : ℕ) → l % 2 ≡ 0 → opposite l ≡ l + 1
unfolding opposite
opposite_even l e = rw e refl

opposite_odd : (l : ℕ) → l % 2 ≡ 1 → opposite l ≡ l - 1
unfolding opposite
opposite_odd l e = rw e refl

edge_of-opposite : (es : List ℕ) (l : ℕ) → edge_of es (opposite l) ≡ opposite (edge_of es l)
edge_of-opposite es l = elim (cases_eq (l % 2) 0) [
  | inl e ↦
      let p : (l + 1) % 2 ≡ 1 = omega arith in
      let q : (l + 1) / 2 ≡ l / 2 = omega arith in
      ap (edge_of es) (opposite_even l e) ∙ rw (p, q, e) refl
  | inr ne ↦
      let e : l % 2 ≡ 1 = omega arith in
      let p : (l - 1) % 2 ≡ 0 = omega arith in
      let q : (l - 1) / 2 ≡ l / 2 = omega arith in
      ap (edge_of es) (opposite_odd l e) ∙ rw (p, q, e) (sym (opposite-opposite (get_or es (l / 2) 0)))
]

-- how many inputs there are, and the resets
input_inputs : (ls : List ℕ) (m : Imported) → (fold with_input_of m ls).system.parts.inputs ≡ m.system.parts.inputs + length ls
input_inputs [] m = omega arith
input_inputs (l ∷ ls) m = input_inputs ls (with_input_of m l) ∙ omega arith

latch_inputs : (ls : List Latch) (m : Imported) → (fold with_latch_of m ls).system.parts.inputs ≡ m.system.parts.inputs
latch_inputs [] m = refl
latch_inputs (l ∷ ls) m = latch_inputs ls (with_latch_of m l)

input_resets : (ls : List ℕ) (m : Imported) → (fold with_input_of m ls).system.resets ≡ m.system.resets
input_resets [] m = refl
input_resets (l ∷ ls) m = input_resets ls (with_input_of m l)

latch_resets : (ls : List Latch) (m : Imported) → (fold with_latch_of m ls).system.resets ≡ m.system.resets ++ map (λ (l : Latch). l.reset) ls
latch_resets [] m = sym (append-nil m.system.resets)
latch_resets (l ∷ ls) m = latch_resets ls (with_latch_of m l) ∙ append_assoc m.system.resets (l.reset ∷ []) (map (λ (l : Latch). l.reset) ls)

module _ (gates : List AndGate) where
  gate_inputs : (rs : List ℕ) (m : Imported) → (fold (λ m (r : ℕ). with_gate_of m (gate_at gates r)) m rs).system.parts.inputs ≡ m.system.parts.inputs
  gate_inputs [] m = refl
  gate_inputs (r ∷ rs) m = gate_inputs rs (with_gate_of m (gate_at gates r))

  gate_resets : (rs : List ℕ) (m : Imported) → (fold (λ m (r : ℕ). with_gate_of m (gate_at gates r)) m rs).system.resets ≡ m.system.resets
  gate_resets [] m = refl
  gate_resets (r ∷ rs) m = gate_resets rs (with_gate_of m (gate_at gates r))

module _ (v : Aig) (level : ℕ → ℕ) (ranks : List ℕ) (g : IsGood v) (a : AreLevels v.gates level) (o : AreByLevel v.gates level ranks) where
  -- before, behind the inputs, behind the latches and behind the gates
  abbrev none : Imported
  none = imported_none v.max

  abbrev first : Imported
  first = fold with_input_of none v.inputs

  abbrev second : Imported
  second = fold with_latch_of first v.latches

  abbrev step : Imported → ℕ → Imported
  step m r = with_gate_of m (gate_at v.gates r)

  abbrev last : Imported
  last = fold step second ranks

  abbrev rank_var : ℕ → ℕ
  rank_var r = var_at v.gates r

  module _ (inputs latches : List Bool) where
    abbrev value : Imported → ℕ → Bool
    value m l = holds v.max inputs latches m l

    abbrev told : Imported → ℕ → Bool
    told m r = value m (gate_at v.gates r).rhs0 && value m (gate_at v.gates r).rhs1

    abbrev by_input : Imported → ℕ → Bool
    by_input m l = get_or inputs m.system.parts.inputs false

    abbrev by_latch : Imported → Latch → Bool
    by_latch m l = get_or latches m.system.parts.latches false

    inputs_okay : All (λ l. l / 2 ≤ v.max) v.inputs
    inputs_okay k d lt = let i = inputs_defining v g k d lt in let le = i.2 in omega arith

    latches_okay : All (λ (l : Latch). l.lit / 2 ≤ v.max) v.latches
    latches_okay k d lt = let i = latches_defining v g k d lt in let le = i.2 in omega arith

    ranks_okay : All (λ (r : ℕ). rank_var r ≤ v.max) ranks
    ranks_okay k d lt = gates_within v g (get_or ranks k d) (inside v.gates level ranks o a (gates_apart v g) k d lt)

    one_input : (m : Imported) (l : ℕ) → Fits v.max inputs latches m → l / 2 ≤ v.max → Defines v.max inputs latches m (with_input_of m l) (l / 2) (by_input m l)
    one_input = input_defines v.max inputs latches

    one_latch : (m : Imported) (l : Latch) → Fits v.max inputs latches m → l.lit / 2 ≤ v.max → Defines v.max inputs latches m (with_latch_of m l) (l.lit / 2) (by_latch m l)
    one_latch = latch_defines v.max inputs latches

    one_gate : (m : Imported) (r : ℕ) → Fits v.max inputs latches m → rank_var r ≤ v.max → Defines v.max inputs latches m (step m r) (rank_var r) (told m r)
    one_gate m r = gate_defines v.max inputs latches m (gate_at v.gates r)

    fits_none : Fits v.max inputs latches none
    fits_none = record {
      len = length-replicate (v.max + 1) 0;
      within = λ k d lt. (let n : length {A = ℕ} (replicate (v.max + 1) 0) ≡ v.max + 1 = length-replicate (v.max + 1) 0 in let e : get_or (replicate (v.max + 1) 0) k d ≡ 0 = get_or-replicate (v.max + 1) k 0 d (omega (arith, n, lt)) in omega (arith, e));
      ordered = record { each = λ k lt. absurd (omega arith) };
    }

    fits_first : Fits v.max inputs latches first
    fits_first = fits_all v.max inputs latches with_input_of (λ l. l / 2) by_input (λ l. l / 2 ≤ v.max) one_input v.inputs none fits_none inputs_okay

    fits_second : Fits v.max inputs latches second
    fits_second = fits_all v.max inputs latches with_latch_of (λ (l : Latch). l.lit / 2) by_latch (λ (l : Latch). l.lit / 2 ≤ v.max) one_latch v.latches first fits_first latches_okay

    -- what no input, no latch, no gate defines stays
    past_inputs : (l : ℕ) → All (λ x. x / 2 ≢ l / 2) v.inputs → value first l ≡ value none l
    past_inputs l never = stays v.max inputs latches with_input_of (λ l. l / 2) by_input (λ l. l / 2 ≤ v.max) one_input v.inputs none fits_none inputs_okay l never

    past_latches : (l : ℕ) → All (λ (x : Latch). x.lit / 2 ≢ l / 2) v.latches → value second l ≡ value first l
    past_latches l never = stays v.max inputs latches with_latch_of (λ (l : Latch). l.lit / 2) by_latch (λ (l : Latch). l.lit / 2 ≤ v.max) one_latch v.latches first fits_first latches_okay l never

    past_gates : (l : ℕ) → ((k : ℕ) → k < length v.gates → var_at v.gates k ≢ l / 2) → value last l ≡ value second l
    past_gates l never =
        stays v.max inputs latches step rank_var told (λ (r : ℕ). rank_var r ≤ v.max) one_gate ranks second fits_second ranks_okay l
        (λ k d lt. never (get_or ranks k d) (inside v.gates level ranks o a (gates_apart v g) k d lt))

    constant : value last 0 ≡ false
    constant =
        past_gates 0 (λ k lt e. (let d = gates_defining v g k (record { lhs = 0; rhs0 = 0; rhs1 = 0 }) lt in let big = d.1 in omega (arith, big, e)))
        ∙ past_latches 0 (λ k d lt e. (let i = latches_defining v g k d lt in let big = i.1 in omega (arith, big, e)))
        ∙ past_inputs 0 (λ k d lt e. (let i = inputs_defining v g k d lt in let big = i.1 in omega (arith, big, e)))
        ∙ ap (value_in (false ∷ [])) (get_or-replicate (v.max + 1) 0 0 0 (omega arith))
        ∙ value_in-zero (false ∷ []) refl

    input : (k : ℕ) → k < length v.inputs → value last (get_or v.inputs k 0) ≡ get_or inputs k false
    input k lt =
        let i = inputs_defining v g k 0 lt in
        let n = input_inputs (take k v.inputs) none in
        let t = length-take-le k v.inputs (omega arith) in
        past_gates (get_or v.inputs k 0) (λ j jl. input_no_gate v g k j lt jl)
        ∙ past_latches (get_or v.inputs k 0) (λ j d jl. input_no_latch v g k j d lt jl)
        ∙ defined_at v.max inputs latches with_input_of (λ l. l / 2) by_input (λ l. l / 2 ≤ v.max) one_input v.inputs none fits_none inputs_okay k (get_or v.inputs k 0) 0 lt i.0 refl (λ j d le jl e.
        absurd (let same = inputs_apart v g j k jl lt (ap (λ x. x / 2) (get_or_default v.inputs j 0 d jl) ∙ e) in omega (arith, same)))
        ∙ ap (λ z. get_or inputs z false) (omega (arith, n, t))

    latch : (k : ℕ) → k < length v.latches → value last (latch_at v.latches k).lit ≡ get_or latches k false
    latch k lt =
        let none_there : Latch = record { lit = 0; next = 0; reset = Zero } in
        let i = latches_defining v g k (record { lit = 0; next = 0; reset = Zero }) lt in
        let n = latch_latches (take k v.latches) first in
        let m = input_latches v.inputs none in
        let t = length-take-le k v.latches (omega arith) in
        past_gates (latch_at v.latches k).lit (λ j jl. latch_no_gate v g k j (record { lit = 0; next = 0; reset = Zero }) lt jl)
        ∙ defined_at v.max inputs latches with_latch_of (λ (l : Latch). l.lit / 2) by_latch (λ (l : Latch). l.lit / 2 ≤ v.max) one_latch v.latches first fits_first latches_okay k (latch_at v.latches k).lit (record { lit = 0; next = 0; reset = Zero }) lt i.0 refl (λ j d le jl e.
        absurd (let same = latches_apart v g j k d jl lt (e ∙ sym (ap (λ (x : Latch). x.lit / 2) (get_or_default v.latches k d (record { lit = 0; next = 0; reset = Zero }) lt))) in omega (arith, same)))
        ∙ ap (λ z. get_or latches z false) (omega (arith, n, m, t))

    -- a gate, by its place in the order
    ranked : (i : ℕ) (d : ℕ) → i < length ranks → value last (gate_at v.gates (get_or ranks i d)).lhs ≡ (value last (gate_at v.gates (get_or ranks i d)).rhs0 && value last (gate_at v.gates (get_or ranks i d)).rhs1)
    ranked i d lt =
        let kl = inside v.gates level ranks o a (gates_apart v g) i d lt in
        let even = (gates_defining v g (get_or ranks i d) (record { lhs = 0; rhs0 = 0; rhs1 = 0 }) kl).0 in
        let from : (l : ℕ) → level (l / 2) < level (var_at v.gates (get_or ranks i d)) → value last l ≡ value (fold step second (take i ranks)) l = λ (l : ℕ) (lower : level (l / 2) < level (var_at v.gates (get_or ranks i d))).
        stays_from v.max inputs latches step rank_var told (λ (r : ℕ). rank_var r ≤ v.max) one_gate ranks second fits_second ranks_okay i l (λ j e le jl.
        lower_apart v.gates level ranks o a (gates_apart v g) i j (l / 2) e le jl (subst (λ (r : ℕ). level (l / 2) < level (rank_var r)) (get_or_default ranks i d e lt) lower)) in
        defined_at v.max inputs latches step rank_var told (λ (r : ℕ). rank_var r ≤ v.max) one_gate ranks second fits_second ranks_okay i (gate_at v.gates (get_or ranks i d)).lhs d lt even refl (λ j e le jl.
        subst (λ (r : ℕ). rank_var (get_or ranks j e) ≢ rank_var r) (get_or_default ranks i e d lt) (later_apart v.gates level ranks o a (gates_apart v g) i j e le jl))
        ∙ ap (λ t. t && value (fold step second (take i ranks)) (gate_at v.gates (get_or ranks i d)).rhs1) (sym (from (gate_at v.gates (get_or ranks i d)).rhs0 (left_lower v.gates level ranks o a (gates_apart v g) (get_or ranks i d) kl)))
        ∙ ap (λ t. value last (gate_at v.gates (get_or ranks i d)).rhs0 && t) (sym (from (gate_at v.gates (get_or ranks i d)).rhs1 (right_lower v.gates level ranks o a (gates_apart v g) (get_or ranks i d) kl)))

    values : AreValues v inputs latches (λ l. value last l)
    values = record {
      constant = constant;
      negation = λ l. ap (value_in (node_values inputs latches last.system.parts.nodes)) (edge_of-opposite last.edges l) ∙ value_in-opposite (node_values inputs latches last.system.parts.nodes) (edge_of last.edges l);
      input = input;
      latch = latch;
      gate = all_gates v.gates level ranks o a (gates_apart v g) (λ k. value last (gate_at v.gates k).lhs ≡ (value last (gate_at v.gates k).rhs0 && value last (gate_at v.gates k).rhs1)) ranked;
    }

  pub circuit_means : MeansFile v (system_of v ranks)
  unfolding system_of
  circuit_means = record {
    edge = edge_of last.edges;
    values = values;
    inputs = gate_inputs v.gates ranks second ∙ latch_inputs v.latches first ∙ input_inputs v.inputs none ∙ (let e : 0 + length v.inputs ≡ length v.inputs = omega arith in e);
    latches = gate_latches v.gates ranks second ∙ latch_latches v.latches first ∙ ap (λ z. z + length v.latches) (input_latches v.inputs none) ∙ (let e : 0 + length v.latches ≡ length v.latches = omega arith in e);
    resets = gate_resets v.gates ranks second ∙ latch_resets v.latches first ∙ ap (λ (z : List Reset). z ++ map (λ (l : Latch). l.reset) v.latches) (input_resets v.inputs none);
    nexts = refl;
    outs = refl;
    bads = refl;
    cons = refl;
  }

-- so does the circuit that a good value says
pub value_means : (v : Aig) → IsGood v → MeansFile v (circuit_of v)
value_means v g =
    let levels = gates_have_levels v.gates (gates_apart v g) (gates_acyclic v g) in
    circuit_means v (variable_level v.gates) (places_by_level v.gates) g levels.0 levels.1
