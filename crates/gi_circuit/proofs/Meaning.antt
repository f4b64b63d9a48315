use Rattle.std.proofs.Common.{◌≡◌, ℕ, ◌+◌, ◌*◌, ◌/◌, ◌%◌, ◌<◌, ◌≤◌, Bool, true, false, not, cond, Option, Some, None, List, [], ◌∷◌, ◌++◌, length, take, drop, get_or, refl, sym, ap, ◌∙◌, subst, arith, inl, inr, length-append, append_assoc}
use Rattle.std.specs.Prelude.{◌&&◌, ◌==◌, ◌||◌, nat_lt}
use Rattle.std.specs.List.{slice_get}
use Rattle.std.proofs.lemmas.Bool.{eqb-true, or_cases}
use Rattle.std.proofs.lemmas.List.{length-take-le, append-nil, take_more, take-append-drop}
use Rattle.std.proofs.lemmas.Option.{slice_get_within, get_or_from_slice_get}
use Rattle.gi_circuit.specs.Values.{value_in}
use Rattle.gi_lit.specs.Literals.{opposite}
use Rattle.gi_circuit.specs.Laws.{IsConjunction}
use Rattle.gi_circuit.specs.Nodes.{Parts, node_values, IsPlaced, IsOrdered, gate_from, folded, gate_in, and_in, pair_of}
use Rattle.gi_circuit.specs.declared.node.Node.{Node}
use Rattle.gi_circuit.specs.declared.node.Node.TheVariants.{Input, Gate}
use Rattle.gi_circuit.proofs.Gates.{cond_some, gate_found, and_in-folded, and_in-gate, a_pair}
use Rattle.gi_circuit.proofs.Gates.{old_value, new_value}

pub value_in-zero : (vs : List Bool) → get_or vs 0 false ≡ false → value_in vs 0 ≡ false
unfolding value_in
value_in-zero vs e = e

pub value_in-one : (vs : List Bool) → get_or vs 0 false ≡ false → value_in vs 1 ≡ true
unfolding value_in
value_in-one vs e = ap not e

pub value_in-opposite : (vs : List Bool) (e : ℕ) → value_in vs (opposite e) ≡ not (value_in vs e)
unfolding value_in opposite
value_in-opposite vs e = grind arith

and_same : (a : Bool) → (a && a) ≡ a
and_same true = refl
and_same false = refl

and_right : (a : Bool) → (a && true) ≡ a
and_right true = refl
and_right false = refl

and_false : (a : Bool) → (a && false) ≡ false
and_false true = refl
and_false false = refl

not_and : (a : Bool) → (not a && a) ≡ false
not_and true = refl
not_and false = refl

and_comm : (a b : Bool) → (a && b) ≡ (b && a)
and_comm true true = refl
and_comm true false = refl
and_comm false true = refl
and_comm false false = refl

-- what folds has the value of the conjunction
pub folded_value : (vs : List Bool) (a b e : ℕ) → get_or vs 0 false ≡ false → folded a b ≡ Some e → value_in vs e ≡ (value_in vs a && value_in vs b)
folded_value vs a b e z f = elim (cond_some (a == 0 || b == 0) 0 e _ f) [
  | inl h ↦ subst (λ (x : ℕ). value_in vs x ≡ (value_in vs a && value_in vs b)) h.1 (elim (or_cases (a == 0) (b == 0) h.0) [
    | inl p ↦ value_in-zero vs z ∙ sym (ap (λ x. value_in vs x && value_in vs b) (eqb-true a 0 p) ∙ ap (λ t. t && value_in vs b) (value_in-zero vs z))
    | inr p ↦ value_in-zero vs z ∙ sym (ap (λ x. value_in vs a && value_in vs x) (eqb-true b 0 p) ∙ ap (λ t. value_in vs a && t) (value_in-zero vs z) ∙ and_false (value_in vs a))
  ])
  | inr h1 ↦ elim (cond_some (a == 1) b e _ h1.1) [
    | inl h ↦ subst (λ (x : ℕ). value_in vs x ≡ (value_in vs a && value_in vs b)) h.1 (sym (ap (λ x. value_in vs x && value_in vs b) (eqb-true a 1 h.0) ∙ ap (λ t. t && value_in vs b) (value_in-one vs z)))
    | inr h2 ↦ elim (cond_some (b == 1) a e _ h2.1) [
      | inl h ↦ subst (λ (x : ℕ). value_in vs x ≡ (value_in vs a && value_in vs b)) h.1 (sym (ap (λ x. value_in vs a && value_in vs x) (eqb-true b 1 h.0) ∙ ap (λ t. value_in vs a && t) (value_in-one vs z) ∙ and_right (value_in vs a)))
      | inr h3 ↦ elim (cond_some (a == b) a e _ h3.1) [
        | inl h ↦ subst (λ (x : ℕ). value_in vs x ≡ (value_in vs a && value_in vs b)) h.1 (sym (ap (λ x. value_in vs a && value_in vs x) (sym (eqb-true a b h.0)) ∙ and_same (value_in vs a)))
        | inr h4 ↦ elim (cond_some (a == opposite b) 0 e None h4.1) [
          | inl h ↦ subst (λ (x : ℕ). value_in vs x ≡ (value_in vs a && value_in vs b)) h.1 (value_in-zero vs z ∙ sym (ap (λ x. value_in vs x && value_in vs b) (eqb-true a (opposite b) h.0) ∙ ap (λ t. t && value_in vs b) (value_in-opposite vs b) ∙ not_and (value_in vs b)))
          | inr h ↦ absurd (let n : None ≡ Some e = h.1 in cc)
        ]
      ]
    ]
  ]
]

pub folded_within : (a b e n : ℕ) → a / 2 ≤ n → b / 2 ≤ n → folded a b ≡ Some e → e / 2 ≤ n
folded_within a b e n al bl f = elim (cond_some (a == 0 || b == 0) 0 e _ f) [
  | inl h ↦ subst (λ (x : ℕ). x / 2 ≤ n) h.1 (omega arith)
  | inr h1 ↦ elim (cond_some (a == 1) b e _ h1.1) [
    | inl h ↦ subst (λ (x : ℕ). x / 2 ≤ n) h.1 bl
    | inr h2 ↦ elim (cond_some (b == 1) a e _ h2.1) [
      | inl h ↦ subst (λ (x : ℕ). x / 2 ≤ n) h.1 al
      | inr h3 ↦ elim (cond_some (a == b) a e _ h3.1) [
        | inl h ↦ subst (λ (x : ℕ). x / 2 ≤ n) h.1 al
        | inr h4 ↦ elim (cond_some (a == opposite b) 0 e None h4.1) [ inl h ↦ subst (λ (x : ℕ). x / 2 ≤ n) h.1 (omega arith) | inr h ↦ absurd (let z : None ≡ Some e = h.1 in cc) ]
      ]
    ]
  ]
]

-- values of the front stay
pub front_value : (inputs latches : List Bool) (xs ys : List Node) (k : ℕ) → k ≤ length xs → get_or (node_values inputs latches (xs ++ ys)) k false ≡ get_or (node_values inputs latches xs) k false
front_value inputs latches xs [] k le = ap (λ z. get_or (node_values inputs latches z) k false) (append-nil xs)
front_value inputs latches xs (y ∷ ys) k le =
    ap (λ z. get_or (node_values inputs latches z) k false) (sym (append_assoc xs (y ∷ []) ys))
    ∙ front_value inputs latches (xs ++ y ∷ []) ys k (omega (arith, length-append xs (y ∷ [])))
    ∙ old_value inputs latches xs y k le

pub front_edge : (inputs latches : List Bool) (xs ys : List Node) (e : ℕ) → e / 2 ≤ length xs → value_in (node_values inputs latches (xs ++ ys)) e ≡ value_in (node_values inputs latches xs) e
unfolding value_in
front_edge inputs latches xs ys e le = ap (λ t. cond (e % 2 == 0) t (not t)) (front_value inputs latches xs ys (e / 2) le)

pub value_zero : (inputs latches : List Bool) (net : List Node) → get_or (node_values inputs latches net) 0 false ≡ false
value_zero inputs latches net = front_value inputs latches [] net 0 (omega arith)

pub edge_value : (vs : List Bool) (k : ℕ) → value_in vs (2 * k) ≡ get_or vs k false
unfolding value_in
edge_value vs k =
    let even : (2 * k) % 2 ≡ 0 = omega arith in
    let half : (2 * k) / 2 ≡ k = omega arith in
    rw (even, half) refl

-- a gate of the circuit has the conjunction's value
pub gate_at : (inputs latches : List Bool) (c : Parts) (i low high : ℕ) → IsOrdered c → slice_get c.nodes i ≡ Some (Gate low high) → value_in (node_values inputs latches c.nodes) (2 * (i + 1)) ≡ (value_in (node_values inputs latches c.nodes) low && value_in (node_values inputs latches c.nodes) high)
gate_at inputs latches c i low high o at =
    let lt : i < length c.nodes = slice_get_within c.nodes i (Gate low high) at in
    let front : List Node = take i c.nodes in
    let len : length (take i c.nodes) ≡ i = length-take-le i c.nodes (omega arith) in
    let g : get_or c.nodes i (Input 0) ≡ Gate low high = get_or_from_slice_get c.nodes i (Gate low high) (Input 0) at in
    let placed : (low < high) × (high / 2 ≤ i) = subst (IsPlaced c.inputs c.latches i) g (o.each i lt) in
    let more : take (i + 1) c.nodes ≡ take i c.nodes ++ Gate low high ∷ [] = take_more c.nodes i (Input 0) lt ∙ ap (λ z. take i c.nodes ++ z ∷ []) g in
    let split : c.nodes ≡ (take i c.nodes ++ Gate low high ∷ []) ++ drop (i + 1) c.nodes = sym (take-append-drop (i + 1) c.nodes) ∙ ap (λ z. z ++ drop (i + 1) c.nodes) more in
    let split' : c.nodes ≡ take i c.nodes ++ drop i c.nodes = sym (take-append-drop i c.nodes) in
    let p0 = placed.0 in
    let p1 = placed.1 in
    edge_value (node_values inputs latches c.nodes) (i + 1)
    ∙ ap (λ z. get_or (node_values inputs latches z) (i + 1) false) split
    ∙ front_value inputs latches (take i c.nodes ++ Gate low high ∷ []) (drop (i + 1) c.nodes) (i + 1) (omega (arith, length-append (take i c.nodes) (Gate low high ∷ []), len))
    ∙ new_value inputs latches (take i c.nodes) (Gate low high) (i + 1) (ap (λ z. z + 1) (sym len))
    ∙ ap (λ t. t && value_in (node_values inputs latches (take i c.nodes)) high) (sym (ap (λ z. value_in (node_values inputs latches z) low) split' ∙ front_edge inputs latches (take i c.nodes) (drop i c.nodes) low (omega (arith, p0, p1, len))))
    ∙ ap (λ t. value_in (node_values inputs latches c.nodes) low && t) (sym (ap (λ z. value_in (node_values inputs latches z) high) split' ∙ front_edge inputs latches (take i c.nodes) (drop i c.nodes) high (omega (arith, p1, len))))

module _ (inputs latches : List Bool) (c : Parts) (o : IsOrdered c) (a b : ℕ) (al : a / 2 ≤ length c.nodes) (bl : b / 2 ≤ length c.nodes) where
  abbrev vs : List Bool
  vs = node_values inputs latches c.nodes

  pair_value : (value_in vs (pair_of a b).low && value_in vs (pair_of a b).high) ≡ (value_in vs a && value_in vs b)
  pair_value = go (nat_lt a b)
    where
      go : (t : Bool) → (value_in vs (cond t (a_pair a b) (a_pair b a)).low && value_in vs (cond t (a_pair a b) (a_pair b a)).high) ≡ (value_in vs a && value_in vs b)
      go true = refl
      go false = and_comm (value_in vs b) (value_in vs a)

  pub pair_within : ((pair_of a b).low / 2 ≤ length c.nodes) × ((pair_of a b).high / 2 ≤ length c.nodes)
  pair_within = go (nat_lt a b)
    where
      go : (t : Bool) → ((cond t (a_pair a b) (a_pair b a)).low / 2 ≤ length c.nodes) × ((cond t (a_pair a b) (a_pair b a)).high / 2 ≤ length c.nodes)
      go true = (al, bl)
      go false = (bl, al)

  gate_conjunction : (g : Option ℕ) → gate_from 1 c.nodes (pair_of a b).low (pair_of a b).high ≡ g → IsConjunction inputs latches c a b (gate_in c.nodes (pair_of a b).low (pair_of a b).high g)
  gate_conjunction (Some k) e =
      let r = gate_found 1 c.nodes (pair_of a b).low (pair_of a b).high k e in
      let lt : r.0 < length c.nodes = slice_get_within c.nodes r.0 _ r.2 in
      let k_is : k ≡ r.0 + 1 = (let x : k ≡ 1 + r.0 = r.1 in omega arith) in
      record {
        more = [];
        nodes = sym (append-nil c.nodes);
        within = omega (arith, k_is);
        value = ap (λ z. value_in vs (2 * z)) k_is ∙ gate_at inputs latches c r.0 (pair_of a b).low (pair_of a b).high o r.2 ∙ pair_value;
      }
  gate_conjunction None e = record {
    more = Gate (pair_of a b).low (pair_of a b).high ∷ [];
    nodes = refl;
    within = omega (arith, length-append c.nodes (Gate (pair_of a b).low (pair_of a b).high ∷ []));
    value =
        edge_value (node_values inputs latches (c.nodes ++ Gate (pair_of a b).low (pair_of a b).high ∷ [])) (length c.nodes + 1)
        ∙ new_value inputs latches c.nodes (Gate (pair_of a b).low (pair_of a b).high) (length c.nodes + 1) refl
        ∙ pair_value;
  }

  pub and_in-value : IsConjunction inputs latches c a b (and_in c.nodes a b)
  and_in-value = go (folded a b) refl
    where
      go : (f : Option ℕ) → folded a b ≡ f → IsConjunction inputs latches c a b (and_in c.nodes a b)
      go (Some e) f = subst (IsConjunction inputs latches c a b) (sym (and_in-folded c.nodes a b e f)) (record {
        more = [];
        nodes = sym (append-nil c.nodes);
        within = folded_within a b e (length c.nodes) al bl f;
        value = folded_value vs a b e (value_zero inputs latches c.nodes) f;
      })
      go None f = subst (IsConjunction inputs latches c a b) (sym (and_in-gate c.nodes a b f)) (gate_conjunction (gate_from 1 c.nodes (pair_of a b).low (pair_of a b).high) refl)
