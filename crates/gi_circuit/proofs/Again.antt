use Rattle.std.proofs.Common.{◌≡◌, ◌≢◌, ℕ, suc, ◌+◌, ◌*◌, Bool, true, false, cond, Option, Some, None, List, [], ◌∷◌, ◌++◌, length, refl, sym, ap, ◌∙◌, arith, inl, inr}
use Rattle.std.specs.Prelude.{◌&&◌, ◌==◌, ◌||◌}
use Rattle.std.proofs.lemmas.Bool.{cases_lt, cases_eq, eq-eqb, ne_eqb, eqb-true, and_from, le-ltb, lt-ltb}
use Rattle.gi_lit.specs.Literals.{opposite}
use Rattle.gi_lit.proofs.Literals.{opposite-opposite}
use Rattle.gi_circuit.specs.Nodes.{gate_from, folded, Made, gate_in, and_in, pair_of}
use Rattle.gi_circuit.specs.declared.node.Pair.{Pair}
use Rattle.gi_circuit.specs.declared.node.Node.{Node}
use Rattle.gi_circuit.specs.declared.node.Node.TheVariants.{Input, Latch, Gate}
use Rattle.gi_circuit.proofs.Gates.{a_pair, and_in-folded, and_in-gate, folded_differ}

eqb_comm : (a b : ℕ) → (a == b) ≡ (b == a)
eqb_comm a b = elim (cases_eq a b) [ inl e ↦ eq-eqb a b e ∙ sym (eq-eqb b a (sym e)) | inr ne ↦ ne_eqb a b ne ∙ sym (ne_eqb b a (λ e. ne (sym e))) ]

or_comm : (a b : Bool) → (a || b) ≡ (b || a)
or_comm true true = refl
or_comm true false = refl
or_comm false true = refl
or_comm false false = refl

-- one is the negation of the other
opposite_comm : (a b : ℕ) → (a == opposite b) ≡ (b == opposite a)
opposite_comm a b = elim (cases_eq a (opposite b)) [
  | inl e ↦ eq-eqb a (opposite b) e ∙ sym (eq-eqb b (opposite a) (sym (ap opposite e ∙ opposite-opposite b)))
  | inr ne ↦ ne_eqb a (opposite b) ne ∙ sym (ne_eqb b (opposite a) (λ e. ne (sym (ap opposite e ∙ opposite-opposite a))))
]

-- a choice of two edges where both tests hold only for equal ones
chosen : (s t : Bool) (a b : ℕ) (o : Option ℕ) → (s ≡ true → t ≡ true → a ≡ b) → cond s (Some b) (cond t (Some a) o) ≡ cond t (Some a) (cond s (Some b) o)
chosen true true a b o h = ap Some (sym (h refl refl))
chosen true false a b o h = refl
chosen false true a b o h = refl
chosen false false a b o h = refl

same_chosen : (t : Bool) (a b : ℕ) (o : Option ℕ) → (t ≡ true → a ≡ b) → cond t (Some a) o ≡ cond t (Some b) o
same_chosen true a b o h = ap Some (h refl)
same_chosen false a b o h = refl

folded_comm : (a b : ℕ) → folded b a ≡ folded a b
folded_comm a b =
    let last : (if_same : Bool) → cond if_same (Some b) (cond (b == opposite a) (Some 0) None) ≡ cond if_same (Some b) (cond (a == opposite b) (Some 0) None) = λ (z : Bool). ap (λ t. cond z (Some b) (cond t (Some 0) None)) (sym (opposite_comm a b)) in
    ap (λ t. cond t (Some 0) (cond (b == 1) (Some a) (cond (a == 1) (Some b) (cond (b == a) (Some b) (cond (b == opposite a) (Some 0) None))))) (or_comm (b == 0) (a == 0))
    ∙ ap (λ o. cond (a == 0 || b == 0) (Some 0) o) (
    chosen (b == 1) (a == 1) b a (cond (b == a) (Some b) (cond (b == opposite a) (Some 0) None)) (λ p q. eqb-true b 1 p ∙ sym (eqb-true a 1 q))
    ∙ ap (λ o. cond (a == 1) (Some b) (cond (b == 1) (Some a) o)) (
    last (b == a)
    ∙ same_chosen (b == a) b a (cond (a == opposite b) (Some 0) None) (λ p. eqb-true b a p)
    ∙ ap (λ t. cond t (Some a) (cond (a == opposite b) (Some 0) None)) (eqb_comm b a)
    )
    )

pair_comm : (a b : ℕ) → a ≢ b → pair_of b a ≡ pair_of a b
pair_comm a b ne = elim (cases_lt a b) [
  | inl lt ↦ ap (λ t. cond t (a_pair b a) (a_pair a b)) (le-ltb b a (omega arith)) ∙ sym (ap (λ t. cond t (a_pair a b) (a_pair b a)) (lt-ltb a b lt))
  | inr ge ↦ ap (λ t. cond t (a_pair b a) (a_pair a b)) (lt-ltb b a (omega arith)) ∙ sym (ap (λ t. cond t (a_pair a b) (a_pair b a)) (le-ltb a b ge))
]

pub order_free : (nodes : List Node) (a b : ℕ) → and_in nodes b a ≡ and_in nodes a b
order_free nodes a b = go (folded a b) refl
  where
    go : (o : Option ℕ) → folded a b ≡ o → and_in nodes b a ≡ and_in nodes a b
    go (Some e) f = and_in-folded nodes b a e (folded_comm a b ∙ f) ∙ sym (and_in-folded nodes a b e f)
    go None f =
        and_in-gate nodes b a (folded_comm a b ∙ f)
        ∙ ap (λ (p : Pair). gate_in nodes p.low p.high (gate_from 1 nodes p.low p.high)) (pair_comm a b (folded_differ a b f))
        ∙ sym (and_in-gate nodes a b f)

gate_same : (n : ℕ) (low high : ℕ) (ns : List Node) → (if_there : Bool) → if_there ≡ true → cond if_there (Some n) (gate_from (suc n) ns low high) ≡ Some n
gate_same n low high ns true e = refl
gate_same n low high ns false e = absurd (cc)

-- the same behind a gate of another pair
found_later : (n : ℕ) (ns : List Node) (c d low high : ℕ) → gate_from n (Gate c d ∷ ns) low high ≡ None → (t : Bool) → (low == c && high == d) ≡ t
    → (gate_from (suc n) ns low high ≡ None → gate_from (suc n) (ns ++ Gate low high ∷ []) low high ≡ Some (suc n + length ns)) → gate_from n (Gate c d ∷ (ns ++ Gate low high ∷ [])) low high ≡ Some (n + suc (length ns))
found_later n ns c d low high e true q rest = let x : gate_from n (Gate c d ∷ ns) low high ≡ Some n = ap (λ t. cond t (Some n) (gate_from (suc n) ns low high)) q in let y : Some n ≡ None = sym x ∙ e in absurd (cc)
found_later n ns c d low high e false q rest =
    let x : gate_from n (Gate c d ∷ ns) low high ≡ gate_from (suc n) ns low high = ap (λ t. cond t (Some n) (gate_from (suc n) ns low high)) q in
    ap (λ t. cond t (Some n) (gate_from (suc n) (ns ++ Gate low high ∷ []) low high)) q ∙ rest (sym x ∙ e) ∙ ap Some (let z : suc n + length ns ≡ n + suc (length ns) = omega arith in z)

-- a gate that was put behind the nodes is found there
found_last : (n : ℕ) (ns : List Node) (low high : ℕ) → gate_from n ns low high ≡ None → gate_from n (ns ++ Gate low high ∷ []) low high ≡ Some (n + length ns)
found_last n [] low high e = gate_same n low high [] (low == low && high == high) (and_from (low == low) (high == high) (eq-eqb low low refl) (eq-eqb high high refl)) ∙ ap Some (let z : n ≡ n + 0 = omega arith in z)
found_last n (Input j ∷ ns) low high e = found_last (suc n) ns low high e ∙ ap Some (let z : suc n + length ns ≡ n + suc (length ns) = omega arith in z)
found_last n (Latch j ∷ ns) low high e = found_last (suc n) ns low high e ∙ ap Some (let z : suc n + length ns ≡ n + suc (length ns) = omega arith in z)
found_last n (Gate c d ∷ ns) low high e = found_later n ns c d low high e (low == c && high == d) refl (λ f. found_last (suc n) ns low high f)

pub again : (nodes : List Node) (a b : ℕ) → and_in (and_in nodes a b).nodes a b ≡ and_in nodes a b
again nodes a b = go (folded a b) refl
  where
    gate : (g : Option ℕ) → folded a b ≡ None → gate_from 1 nodes (pair_of a b).low (pair_of a b).high ≡ g → and_in (and_in nodes a b).nodes a b ≡ and_in nodes a b
    gate (Some k) f g =
        let m : and_in nodes a b ≡ record { nodes = nodes; edge = 2 * k } = and_in-gate nodes a b f ∙ ap (gate_in nodes (pair_of a b).low (pair_of a b).high) g in
        ap (λ (z : Made). and_in z.nodes a b) m
    gate None f g =
        let l : ℕ = (pair_of a b).low in
        let h : ℕ = (pair_of a b).high in
        let m : and_in nodes a b ≡ record { nodes = nodes ++ Gate (pair_of a b).low (pair_of a b).high ∷ []; edge = 2 * (length nodes + 1) } = and_in-gate nodes a b f ∙ ap (gate_in nodes (pair_of a b).low (pair_of a b).high) g in
        ap (λ (z : Made). and_in z.nodes a b) m
        ∙ and_in-gate (nodes ++ Gate (pair_of a b).low (pair_of a b).high ∷ []) a b f
        ∙ ap (gate_in (nodes ++ Gate (pair_of a b).low (pair_of a b).high ∷ []) (pair_of a b).low (pair_of a b).high) (found_last 1 nodes (pair_of a b).low (pair_of a b).high g ∙ ap Some (let z : 1 + length nodes ≡ length nodes + 1 = omega arith in z))
        ∙ sym m

    go : (o : Option ℕ) → folded a b ≡ o → and_in (and_in nodes a b).nodes a b ≡ and_in nodes a b
    go (Some e) f = let m = and_in-folded nodes a b e f in ap (λ (z : Made). and_in z.nodes a b) m
    go None f = gate (gate_from 1 nodes (pair_of a b).low (pair_of a b).high) f refl
