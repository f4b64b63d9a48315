use Rattle.std.proofs.Common.{◌≡◌, ◌≢◌, ℕ, zero, suc, ◌+◌, ◌*◌, ◌/◌, ◌<◌, ◌≤◌, Bool, true, false, cond, Option, Some, None, List, [], ◌∷◌, ◌++◌, length, get_or, refl, sym, ap, ◌∙◌, subst, arith, ◌⊎◌, inl, inr, length-append}
use Rattle.std.specs.Prelude.{◌&&◌, ◌==◌, ◌||◌, nat_lt}
use Rattle.std.specs.List.{slice_get, fold}
use Rattle.std.specs.Map.{lookup}
use Rattle.std.proofs.lemmas.List.Sums.{fold-append}
use Rattle.std.proofs.lemmas.Bool.{cases_lt, eq-eqb, eqb-true, and_parts, and_from, le-ltb, lt-ltb}
use Rattle.std.proofs.lemmas.Option.{slice_get_within, slice_get-get_or, get_or_from_slice_get}
use Rattle.std.proofs.lemmas.List.{get_or_append_left, get_or_push}
use Rattle.gi_circuit.specs.Nodes.{Parts, value_of, node_values, IsPlaced, IsOrdered, HasNoTwins, gate_from, folded, Made, gate_in, and_or, and_in, IsMade, pair_of, entries_from}
use Rattle.gi_circuit.specs.declared.node.Pair.{Pair}
use Rattle.gi_circuit.specs.declared.node.Node.{Node}
use Rattle.gi_circuit.specs.declared.node.Node.TheVariants.{Input, Latch, Gate}

abbrev pub a_pair : ℕ → ℕ → Pair
a_pair a b = record { low = a; high = b }

-- the map finds what the list of nodes has
pub lookup-entries : (eq : Pair → Bool) (low high : ℕ) → ((c d : ℕ) → eq (a_pair c d) ≡ (low == c && high == d)) → (n : ℕ) (ns : List Node) → lookup eq (entries_from n ns) ≡ gate_from n ns low high
lookup-entries eq low high h n [] = refl
lookup-entries eq low high h n (Input j ∷ ns) = lookup-entries eq low high h (suc n) ns
lookup-entries eq low high h n (Latch j ∷ ns) = lookup-entries eq low high h (suc n) ns
lookup-entries eq low high h n (Gate c d ∷ ns) = ap (λ t. cond t (Some n) (lookup eq (entries_from (suc n) ns))) (h c d) ∙ ap (λ o. cond (low == c && high == d) (Some n) o) (lookup-entries eq low high h (suc n) ns)

pub entries-push : (n : ℕ) (ns : List Node) (a b : ℕ) → entries_from n (ns ++ Gate a b ∷ []) ≡ entries_from n ns ++ (a_pair a b, n + length ns) ∷ []
entries-push n [] a b = ap (λ m. (a_pair a b, m) ∷ []) (let e : n ≡ n + 0 = omega arith in e)
entries-push n (Input j ∷ ns) a b = entries-push (suc n) ns a b ∙ ap (λ m. entries_from (suc n) ns ++ (a_pair a b, m) ∷ []) (let e : suc n + length ns ≡ n + suc (length ns) = omega arith in e)
entries-push n (Latch j ∷ ns) a b = entries-push (suc n) ns a b ∙ ap (λ m. entries_from (suc n) ns ++ (a_pair a b, m) ∷ []) (let e : suc n + length ns ≡ n + suc (length ns) = omega arith in e)
entries-push n (Gate c d ∷ ns) a b = ap (λ es. (a_pair c d, n) ∷ es) (entries-push (suc n) ns a b ∙ ap (λ m. entries_from (suc n) ns ++ (a_pair a b, m) ∷ []) (let e : suc n + length ns ≡ n + suc (length ns) = omega arith in e))

pub cond_some : (t : Bool) (n k : ℕ) (o : Option ℕ) → cond t (Some n) o ≡ Some k → ((t ≡ true) × (n ≡ k)) ⊎ ((t ≡ false) × (o ≡ Some k))
cond_some true n k o e = inl (refl, (let f : n ≡ k = cc in f))
cond_some false n k o e = inr (refl, e)

pub cond_none : (t : Bool) (n : ℕ) (o : Option ℕ) → cond t (Some n) o ≡ None → (t ≡ false) × (o ≡ None)
cond_none true n o e = absurd (cc)
cond_none false n o e = (refl, e)

-- where the gate of a pair stands
pub gate_found : (n : ℕ) (ns : List Node) (low high k : ℕ) → gate_from n ns low high ≡ Some k → (i : ℕ) × (k ≡ n + i) × (slice_get ns i ≡ Some (Gate low high))
gate_found n [] low high k e = absurd (let f : None ≡ Some k = e in cc)
gate_found n (Input j ∷ ns) low high k e = let r = gate_found (suc n) ns low high k e in (suc r.0, (let s : k ≡ suc n + r.0 = r.1 in omega arith), r.2)
gate_found n (Latch j ∷ ns) low high k e = let r = gate_found (suc n) ns low high k e in (suc r.0, (let s : k ≡ suc n + r.0 = r.1 in omega arith), r.2)
gate_found n (Gate c d ∷ ns) low high k e = elim (cond_some (low == c && high == d) n k (gate_from (suc n) ns low high) e) [
  | inl h ↦
      let p = and_parts (low == c) (high == d) h.0 in
      let nk : n ≡ k = h.1 in
      (0, omega arith, ap (λ x. Some (Gate x d)) (sym (eqb-true low c p.0)) ∙ ap (λ x. Some (Gate low x)) (sym (eqb-true high d p.1)))
  | inr h ↦ let r = gate_found (suc n) ns low high k h.1 in (suc r.0, (let s : k ≡ suc n + r.0 = r.1 in omega arith), r.2)
]

gate_same : (a b c d : ℕ) → Some (Gate a b) ≡ Some (Gate c d) → (a ≡ c) × (b ≡ d)
gate_same a b c d e = ((let f : a ≡ c = cc in f), (let g : b ≡ d = cc in g))

pub gate_absent : (n : ℕ) (ns : List Node) (low high : ℕ) → gate_from n ns low high ≡ None → (i : ℕ) → slice_get ns i ≡ Some (Gate low high) → ⊥
gate_absent n [] low high e i h = let f : None ≡ Some (Gate low high) = h in cc
gate_absent n (Input j ∷ ns) low high e zero h = cc
gate_absent n (Input j ∷ ns) low high e (suc i) h = gate_absent (suc n) ns low high e i h
gate_absent n (Latch j ∷ ns) low high e zero h = cc
gate_absent n (Latch j ∷ ns) low high e (suc i) h = gate_absent (suc n) ns low high e i h
gate_absent n (Gate c d ∷ ns) low high e zero h =
    let s = gate_same c d low high h in
    let t : (low == c && high == d) ≡ true = and_from (low == c) (high == d) (eq-eqb low c (sym s.0)) (eq-eqb high d (sym s.1)) in
    let f : (low == c && high == d) ≡ false = (cond_none (low == c && high == d) n (gate_from (suc n) ns low high) e).0 in
    cc (t, f)
gate_absent n (Gate c d ∷ ns) low high e (suc i) h = gate_absent (suc n) ns low high (cond_none (low == c && high == d) n (gate_from (suc n) ns low high) e).1 i h

pub slice_get-push : (ns : List Node) (g : Node) (i : ℕ) (x : Node) → slice_get (ns ++ g ∷ []) i ≡ Some x → ((i < length ns) × (slice_get ns i ≡ Some x)) ⊎ ((i ≡ length ns) × (g ≡ x))
slice_get-push ns g i x e =
    let lt : i < length (ns ++ g ∷ []) = slice_get_within (ns ++ g ∷ []) i x e in
    let at : get_or (ns ++ g ∷ []) i x ≡ x = get_or_from_slice_get (ns ++ g ∷ []) i x x e in
    elim (cases_lt i (length ns)) [
      | inl below ↦ inl (below, slice_get-get_or ns i x below ∙ ap Some (sym (get_or_append_left ns (g ∷ []) x i below) ∙ at))
      | inr ge ↦ let i_is : i ≡ length ns = omega (arith, length-append ns (g ∷ [])) in inr (i_is, sym (get_or_push ns g x i (sym i_is)) ∙ at)
    ]

pub HasNoTwins-push : (ns : List Node) (a b : ℕ) → HasNoTwins ns → gate_from 1 ns a b ≡ None → HasNoTwins (ns ++ Gate a b ∷ [])
HasNoTwins-push ns a b h none = record { each = λ i j c d x y. go i j c d (slice_get-push ns (Gate a b) i (Gate c d) x) (slice_get-push ns (Gate a b) j (Gate c d) y) }
  where
    go : (i j c d : ℕ) → ((i < length ns) × (slice_get ns i ≡ Some (Gate c d))) ⊎ ((i ≡ length ns) × (Gate a b ≡ Gate c d)) → ((j < length ns) × (slice_get ns j ≡ Some (Gate c d))) ⊎ ((j ≡ length ns) × (Gate a b ≡ Gate c d)) → i ≡ j
    go i j c d (inl x) (inl y) = h.each i j c d x.1 y.1
    go i j c d (inl x) (inr y) = absurd (gate_absent 1 ns a b none i (x.1 ∙ ap Some (sym y.1)))
    go i j c d (inr x) (inl y) = absurd (gate_absent 1 ns a b none j (y.1 ∙ ap Some (sym x.1)))
    go i j c d (inr x) (inr y) = x.0 ∙ sym y.0

pub IsOrdered-push : (inputs latches : ℕ) (ns : List Node) (g : Node) → IsOrdered (record { inputs = inputs; latches = latches; nodes = ns }) → IsPlaced inputs latches (length ns) g → IsOrdered (record { inputs = inputs; latches = latches; nodes = ns ++ g ∷ [] })
IsOrdered-push inputs latches ns g h p = record {
  each = λ k lt. elim (cases_lt k (length ns)) [
    | inl below ↦ subst (IsPlaced inputs latches k) (sym (get_or_append_left ns (g ∷ []) (Input 0) k below)) (h.each k below)
    | inr ge ↦
        let e : length ns ≡ k = omega (arith, length-append ns (g ∷ [])) in
        subst (IsPlaced inputs latches k) (sym (get_or_push ns g (Input 0) k e)) (subst (λ (z : ℕ). IsPlaced inputs latches z g) e p)
  ];
}

-- no gate is made of an edge and itself
pub folded_differ : (a b : ℕ) → folded a b ≡ None → a ≢ b
folded_differ a b e same =
    let r1 = cond_none (a == 0 || b == 0) _ _ e in
    let r2 = cond_none (a == 1) _ _ r1.1 in
    let r3 = cond_none (b == 1) _ _ r2.1 in
    let r4 = cond_none (a == b) _ _ r3.1 in
    let t : (a == b) ≡ true = eq-eqb a b same in
    let f : (a == b) ≡ false = r4.0 in
    cc (t, f)

pub and_in-folded : (ns : List Node) (a b e : ℕ) → folded a b ≡ Some e → and_in ns a b ≡ record { nodes = ns; edge = e }
unfolding and_in
and_in-folded ns a b e f = ap (and_or ns a b) f

pub and_in-gate : (ns : List Node) (a b : ℕ) → folded a b ≡ None → and_in ns a b ≡ gate_in ns (pair_of a b).low (pair_of a b).high (gate_from 1 ns (pair_of a b).low (pair_of a b).high)
unfolding and_in
and_in-gate ns a b f = ap (and_or ns a b) f ∙ go (nat_lt a b) refl
  where
    go : (t : Bool) → nat_lt a b ≡ t → and_or ns a b None ≡ gate_in ns (pair_of a b).low (pair_of a b).high (gate_from 1 ns (pair_of a b).low (pair_of a b).high)
    go true e = rw e refl
    go false e = rw e refl

pub pair_placed : (inputs latches k a b : ℕ) → a ≢ b → a / 2 ≤ k → b / 2 ≤ k → IsPlaced inputs latches k (Gate (pair_of a b).low (pair_of a b).high)
pair_placed inputs latches k a b ne al bl = elim (cases_lt a b) [
  | inl lt ↦ rw (lt-ltb a b lt) (lt, bl)
  | inr ge ↦ rw (le-ltb a b ge) (omega arith, al)
]

-- values
length-fold : (inputs latches : List Bool) (ns : List Node) (vs : List Bool) → length (fold (λ values n. values ++ value_of inputs latches values n ∷ []) vs ns) ≡ length vs + length ns
length-fold inputs latches [] vs = omega arith
length-fold inputs latches (n ∷ ns) vs = length-fold inputs latches ns (vs ++ value_of inputs latches vs n ∷ []) ∙ omega (arith, length-append vs (value_of inputs latches vs n ∷ []))

pub length-node_values : (inputs latches : List Bool) (ns : List Node) → length (node_values inputs latches ns) ≡ length ns + 1
length-node_values inputs latches ns = length-fold inputs latches ns (false ∷ []) ∙ omega arith

-- what is found below 2 ^ 31 nodes has an edge
pub edge_fits : (nodes : List Node) (low high k : ℕ) → gate_from 1 nodes low high ≡ Some k → k ≤ length nodes
edge_fits nodes low high k e = let r = gate_found 1 nodes low high k e in let lt : r.0 < length nodes = slice_get_within nodes r.0 _ r.2 in omega (arith, r.1)

-- the circuit with one more gate
pub made_is : (old new : Parts) (a b n e : ℕ) (p : Pair) (ns : List Node) → folded a b ≡ None → p ≡ pair_of a b → ns ≡ old.nodes → gate_from 1 ns p.low p.high ≡ None → new ≡ record old { nodes = ns ++ Gate p.low p.high ∷ [] } → n ≡ length ns + 1 → e ≡ 2 * n → IsMade old new (and_in old.nodes a b) e
made_is old new a b n e p ns f pi ni g wi len ei =
    let made : and_in old.nodes a b ≡ record { nodes = ns ++ Gate p.low p.high ∷ []; edge = 2 * (length ns + 1) } =
    ap (λ z. and_in z a b) (sym ni) ∙ and_in-gate ns a b f
    ∙ ap (λ (q : Pair). gate_in ns q.low q.high (gate_from 1 ns q.low q.high)) (sym pi)
    ∙ ap (gate_in ns p.low p.high) g in
    record { nodes = wi ∙ ap (λ (m : Made). let z : Parts = record old { nodes = m.nodes } in z) (sym made); edge_is = ei ∙ ap (λ z. 2 * z) len ∙ ap (λ (m : Made). m.edge) (sym made) }

pub found_is : (old : Parts) (a b k e : ℕ) (p : Pair) (ns : List Node) → folded a b ≡ None → p ≡ pair_of a b → ns ≡ old.nodes → gate_from 1 ns p.low p.high ≡ Some k → e ≡ 2 * k → IsMade old old (and_in old.nodes a b) e
found_is old a b k e p ns f pi ni g ei =
    let made : and_in old.nodes a b ≡ record { nodes = ns; edge = 2 * k } =
    ap (λ z. and_in z a b) (sym ni) ∙ and_in-gate ns a b f
    ∙ ap (λ (q : Pair). gate_in ns q.low q.high (gate_from 1 ns q.low q.high)) (sym pi)
    ∙ ap (gate_in ns p.low p.high) g in
    record { nodes = ap (λ (z : List Node). let q : Parts = record old { nodes = z } in q) (sym ni) ∙ ap (λ (m : Made). let z : Parts = record old { nodes = m.nodes } in z) (sym made); edge_is = ei ∙ ap (λ (m : Made). m.edge) (sym made) }

-- one node more
pub node_values-push : (inputs latches : List Bool) (net : List Node) (g : Node) → node_values inputs latches (net ++ g ∷ []) ≡ node_values inputs latches net ++ value_of inputs latches (node_values inputs latches net) g ∷ []
node_values-push inputs latches net g = fold-append (λ values n. values ++ value_of inputs latches values n ∷ []) (false ∷ []) net (g ∷ [])

pub old_value : (inputs latches : List Bool) (net : List Node) (g : Node) (k : ℕ) → k ≤ length net → get_or (node_values inputs latches (net ++ g ∷ [])) k false ≡ get_or (node_values inputs latches net) k false
old_value inputs latches net g k le = ap (λ z. get_or z k false) (node_values-push inputs latches net g) ∙ get_or_append_left (node_values inputs latches net) _ false k (omega (arith, length-node_values inputs latches net))

pub new_value : (inputs latches : List Bool) (net : List Node) (g : Node) (k : ℕ) → k ≡ length net + 1 → get_or (node_values inputs latches (net ++ g ∷ [])) k false ≡ value_of inputs latches (node_values inputs latches net) g
new_value inputs latches net g k e = ap (λ z. get_or z k false) (node_values-push inputs latches net g) ∙ get_or_push (node_values inputs latches net) _ false k (length-node_values inputs latches net ∙ sym e)
