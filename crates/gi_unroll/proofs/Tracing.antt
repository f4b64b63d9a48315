-- Values depend on the first inputs and free latches alone, and a trace can be packed into a choice.
use Rattle.std.proofs.Common.{◌≡◌, ℕ, zero, suc, ◌+◌, ◌-◌, ◌<◌, ◌≤◌, Bool, true, false, List, [], ◌∷◌, ◌++◌, length, map, drop, get_or, refl, sym, ap, ◌∙◌, subst, arith, length-append}
use Rattle.std.specs.List.{fold}
use Rattle.std.proofs.Math.Nat.{suc-mul}
use Rattle.std.proofs.lemmas.List.{get_or-drop, get_or_append_left, get_or-append-add}
use Rattle.std.proofs.lemmas.List.FromFn.{length-map-range_with_len, get_or-map-range_with_len}
use Rattle.gi_aiger.specs.declared.aig.Reset.{Reset}
use Rattle.gi_aiger.specs.declared.aig.Reset.TheVariants.{Zero, One, Free}
use Rattle.gi_circuit.specs.Values.{value_in}
use Rattle.gi_circuit.specs.Nodes.{value_of, node_values, IsPlaced}
use Rattle.gi_circuit.specs.Systems.{System, IsCircuit, reset_values, latch_values, value}
use Rattle.gi_circuit.specs.Encoding.{free_count, choices_before}
use Rattle.gi_circuit.specs.declared.node.Node.{Node}
use Rattle.gi_circuit.specs.declared.node.Node.TheVariants.{Input, Latch, Gate}
use Rattle.gi_unroll.specs.Choices.{AgreeUpTo, SameTrace, ValuesDependOnFirst, first_places, packed, TracesArePacked}

-- an input or a latch of those there are
abbrev Within : ℕ → ℕ → Node → Type 0
Within a b (Input j) = j < a
Within a b (Latch j) = j < b
Within a b (Gate c d) = Unit {0}

placed : (a b k : ℕ) (n : Node) → IsPlaced a b k n → Within a b n
placed a b k (Input j) p = p
placed a b k (Latch j) p = p
placed a b k (Gate c d) p = tt

one_value : (inputs latches others rest : List Bool) (a b : ℕ) → AgreeUpTo a inputs others → AgreeUpTo b latches rest → (values : List Bool) (n : Node) → Within a b n → value_of inputs latches values n ≡ value_of others rest values n
one_value inputs latches others rest a b h k values (Input j) w = h j w
one_value inputs latches others rest a b h k values (Latch j) w = k j w
one_value inputs latches others rest a b h k values (Gate c d) w = refl

all_values : (inputs latches others rest : List Bool) (a b : ℕ) → AgreeUpTo a inputs others → AgreeUpTo b latches rest → (nodes : List Node) (values : List Bool) → ((i : ℕ) → i < length nodes → Within a b (get_or nodes i (Input 0)))
    → fold (λ values n. values ++ value_of inputs latches values n ∷ []) values nodes ≡ fold (λ values n. values ++ value_of others rest values n ∷ []) values nodes
all_values inputs latches others rest a b h k [] values w = refl
all_values inputs latches others rest a b h k (n ∷ ns) values w =
    ap (λ (v : Bool). fold (λ values n. values ++ value_of inputs latches values n ∷ []) (values ++ v ∷ []) ns) (one_value inputs latches others rest a b h k values n (w 0 (omega arith)))
    ∙ all_values inputs latches others rest a b h k ns (values ++ value_of others rest values n ∷ []) (λ i lt. w (suc i) (omega (arith, lt)))

resets_agree : (rs : List Reset) (free rest : List Bool) → AgreeUpTo (free_count rs) free rest → reset_values free rs ≡ reset_values rest rs
resets_agree [] free rest h = refl
resets_agree (Zero ∷ rs) free rest h = ap (λ (vs : List Bool). false ∷ vs) (resets_agree rs free rest h)
resets_agree (One ∷ rs) free rest h = ap (λ (vs : List Bool). true ∷ vs) (resets_agree rs free rest h)
resets_agree (Free ∷ rs) free rest h =
    ap (λ (b : Bool). b ∷ reset_values (drop 1 free) rs) (h 0 (omega arith))
    ∙ ap (λ (vs : List Bool). get_or rest 0 false ∷ vs) (resets_agree rs (drop 1 free) (drop 1 rest) (λ j lt. get_or-drop 1 free j false ∙ h (1 + j) (omega (arith, lt)) ∙ sym (get_or-drop 1 rest j false)))

module _ (s : System) (c : IsCircuit s) where
  nodes_agree : (inputs latches others rest : List Bool) → AgreeUpTo s.parts.inputs inputs others → latches ≡ rest → node_values inputs latches s.parts.nodes ≡ node_values others rest s.parts.nodes
  nodes_agree inputs latches others rest h e =
      all_values inputs latches others latches s.parts.inputs s.parts.latches h (λ j lt. refl) s.parts.nodes (false ∷ []) (λ i lt. placed s.parts.inputs s.parts.latches i (get_or s.parts.nodes i (Input 0)) (c.net.ordered.each i lt))
      ∙ ap (λ (ls : List Bool). node_values others ls s.parts.nodes) e

  latches_agree : (t : ℕ) (inputs others : ℕ → List Bool) (free rest : List Bool) → SameTrace s t inputs others free rest → latch_values s inputs free t ≡ latch_values s others rest t
  unfolding latch_values
  latches_agree zero inputs others free rest h = resets_agree s.resets free rest h.free_agree
  latches_agree (suc t) inputs others free rest h =
      let before : SameTrace s t inputs others free rest = record { inputs_agree = λ u le. h.inputs_agree u (omega (arith, le)); free_agree = h.free_agree } in
      ap (λ (vs : List Bool). map (value_in vs) s.nexts) (nodes_agree (inputs t) (latch_values s inputs free t) (others t) (latch_values s others rest t) (h.inputs_agree t (omega arith)) (latches_agree t inputs others free rest before))

  edges_agree : (t e : ℕ) (inputs others : ℕ → List Bool) (free rest : List Bool) → SameTrace s t inputs others free rest → value s t e inputs free ≡ value s t e others rest
  edges_agree t e inputs others free rest h = ap (λ (vs : List Bool). value_in vs e) (nodes_agree (inputs t) (latch_values s inputs free t) (others t) (latch_values s others rest t) (h.inputs_agree t (omega arith)) (latches_agree t inputs others free rest h))

pub values_depend : ValuesDependOnFirst
values_depend s c = record { latches = latches_agree s c; edges = edges_agree s c }

-- a packed trace
module _ (s : System) (inputs : ℕ → List Bool) (free : List Bool) where
  length_first : (n : ℕ) (xs : List Bool) → length (first_places n xs) ≡ n
  length_first n xs = length-map-range_with_len (λ j. get_or xs j false) 0 n

  first_at : (n : ℕ) (xs : List Bool) (j : ℕ) → j < n → get_or (first_places n xs) j false ≡ get_or xs j false
  first_at n xs j lt = get_or-map-range_with_len (λ j. get_or xs j false) 0 n j j false lt (omega arith)

  length_packed : (t : ℕ) → length (packed s inputs free t) ≡ choices_before s (suc t)
  unfolding packed
  length_packed zero =
      omega (arith, length-append (first_places s.parts.inputs (inputs 0)) (first_places (free_count s.resets) free), length_first s.parts.inputs (inputs 0), length_first (free_count s.resets) free)
  length_packed (suc t) =
      omega (arith, length-append (packed s inputs free t) (first_places s.parts.inputs (inputs (suc t))), length_packed t, length_first s.parts.inputs (inputs (suc t)), suc-mul t s.parts.inputs)

  -- what was packed stays
  packed_stays : (u d i : ℕ) → i < length (packed s inputs free u) → (i < length (packed s inputs free (u + d))) × (get_or (packed s inputs free (u + d)) i false ≡ get_or (packed s inputs free u) i false)
  unfolding packed
  packed_stays u zero i lt =
      let e : u ≡ u + 0 = omega arith in
      (subst (λ (w : ℕ). i < length (packed s inputs free w)) e lt, ap (λ (w : ℕ). get_or (packed s inputs free w) i false) (sym e))
  packed_stays u (suc d) i lt =
      let e : suc (u + d) ≡ u + suc d = omega arith in
      let r = packed_stays u d i lt in
      let r0 = r.0 in
      let more : i < length (packed s inputs free (suc (u + d))) = omega (arith, r0, length-append (packed s inputs free (u + d)) (first_places s.parts.inputs (inputs (suc (u + d))))) in (
        subst (λ (w : ℕ). i < length (packed s inputs free w)) e more,
        ap (λ (w : ℕ). get_or (packed s inputs free w) i false) (sym e) ∙ get_or_append_left (packed s inputs free (u + d)) (first_places s.parts.inputs (inputs (suc (u + d)))) false i r0 ∙ r.1,
      )

  packed_at : (u t i : ℕ) → u ≤ t → i < length (packed s inputs free u) → get_or (packed s inputs free t) i false ≡ get_or (packed s inputs free u) i false
  packed_at u t i le lt =
      let e : u + (t - u) ≡ t = omega (arith, le) in
      ap (λ (w : ℕ). get_or (packed s inputs free w) i false) (sym e) ∙ (packed_stays u (t - u) i lt).1

  -- the inputs of a time
  inputs_in : (u j : ℕ) → j < s.parts.inputs → (choices_before s u + j < length (packed s inputs free u)) × (get_or (packed s inputs free u) (choices_before s u + j) false ≡ get_or (inputs u) j false)
  unfolding packed
  inputs_in zero j lt =
      let l = length_first s.parts.inputs (inputs 0) in
      let z : 0 + j ≡ j = omega arith in (
        omega (arith, lt, length_packed 0),
        ap (λ (i : ℕ). get_or (first_places s.parts.inputs (inputs 0) ++ first_places (free_count s.resets) free) i false) z
            ∙ get_or_append_left (first_places s.parts.inputs (inputs 0)) (first_places (free_count s.resets) free) false j (omega (arith, lt, l))
            ∙ first_at s.parts.inputs (inputs 0) j lt,
      )
  inputs_in (suc u) j lt =
      let l = length_packed u in
      let at : choices_before s (suc u) + j ≡ length (packed s inputs free u) + j = omega (arith, l) in (
        omega (arith, lt, l, length_first s.parts.inputs (inputs (suc u)), length-append (packed s inputs free u) (first_places s.parts.inputs (inputs (suc u)))),
        ap (λ (i : ℕ). get_or (packed s inputs free u ++ first_places s.parts.inputs (inputs (suc u))) i false) at
            ∙ get_or-append-add (packed s inputs free u) (first_places s.parts.inputs (inputs (suc u))) j false
            ∙ first_at s.parts.inputs (inputs (suc u)) j lt,
      )

  free_in : (j : ℕ) → j < free_count s.resets → (s.parts.inputs + j < length (packed s inputs free 0)) × (get_or (packed s inputs free 0) (s.parts.inputs + j) false ≡ get_or free j false)
  unfolding packed
  free_in j lt =
      let l = length_first s.parts.inputs (inputs 0) in
      let at : s.parts.inputs + j ≡ length (first_places s.parts.inputs (inputs 0)) + j = omega (arith, l) in (
        omega (arith, lt, l, length_first (free_count s.resets) free, length-append (first_places s.parts.inputs (inputs 0)) (first_places (free_count s.resets) free)),
        ap (λ (i : ℕ). get_or (first_places s.parts.inputs (inputs 0) ++ first_places (free_count s.resets) free) i false) at
            ∙ get_or-append-add (first_places s.parts.inputs (inputs 0)) (first_places (free_count s.resets) free) j false
            ∙ first_at (free_count s.resets) free j lt,
      )

pub traces_packed : TracesArePacked
traces_packed s t inputs free = record {
  inputs_agree = λ u le j lt.
      let r = inputs_in s inputs free u j lt in
      get_or-drop (choices_before s u) (packed s inputs free t) j false ∙ packed_at s inputs free u t (choices_before s u + j) le r.0 ∙ r.1;
  free_agree = λ j lt.
      let r = free_in s inputs free j lt in
      get_or-drop s.parts.inputs (packed s inputs free t) j false ∙ packed_at s inputs free 0 t (s.parts.inputs + j) (omega arith) r.0 ∙ r.1;
}
