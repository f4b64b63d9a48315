use Rattle.std.proofs.Common.{◌≡◌, ℕ, suc, ◌+◌, ◌<◌, ◌≤◌, ◌^◌, cond, Some, None, List, [], ◌∷◌, ◌++◌, length, take, drop, get_or, refl, sym, ap, ◌∙◌, arith, ◌⊎◌, inl, inr, length-append}
use Rattle.std.specs.List.{slice_get, count_by}
use Rattle.std.proofs.lemmas.List.{take-append-drop}
use Rattle.std.proofs.lemmas.List.Sums.{sum_by-append}
use Rattle.std.proofs.Math.Seq.{take-append_seam}
use Rattle.gi_circuit.specs.Nodes.{Parts, is_gate, IsPlaced, IsOrdered, HasNoTwins, AreNodesSound, with_input, with_latch, gate_from, entries_from}
use Rattle.gi_circuit.specs.declared.node.Node.{Node}
use Rattle.gi_circuit.specs.declared.node.Node.TheVariants.{Input, Latch, Gate}
use Rattle.gi_circuit.proofs.Gates.{HasNoTwins-push, IsOrdered-push, slice_get-push}

-- more inputs and latches leave a node in its place
pub placed_more : (c d n m k : ℕ) (g : Node) → c ≤ d → n ≤ m → IsPlaced c n k g → IsPlaced d m k g
placed_more c d n m k (Input j) le more p = let q : j < c = p in omega arith
placed_more c d n m k (Latch j) le more p = let q : j < n = p in omega arith
placed_more c d n m k (Gate a b) le more p = p

pub IsOrdered-more : (c d n m : ℕ) (ns : List Node) → c ≤ d → n ≤ m → IsOrdered (record { inputs = c; latches = n; nodes = ns }) → IsOrdered (record { inputs = d; latches = m; nodes = ns })
IsOrdered-more c d n m ns le more o = record { each = λ k lt. placed_more c d n m k (get_or ns k (Input 0)) le more (o.each k lt) }

-- what is no gate is no twin
pub HasNoTwins-other : (ns : List Node) (g : Node) → ((a b : ℕ) → g ≡ Gate a b → ⊥) → HasNoTwins ns → HasNoTwins (ns ++ g ∷ [])
HasNoTwins-other ns g none h = record { each = λ i j c d x y. go i j c d (slice_get-push ns g i (Gate c d) x) (slice_get-push ns g j (Gate c d) y) }
  where
    go : (i j c d : ℕ) → ((i < length ns) × (slice_get ns i ≡ Some (Gate c d))) ⊎ ((i ≡ length ns) × (g ≡ Gate c d)) → ((j < length ns) × (slice_get ns j ≡ Some (Gate c d))) ⊎ ((j ≡ length ns) × (g ≡ Gate c d)) → i ≡ j
    go i j c d (inl x) (inl y) = h.each i j c d x.1 y.1
    go i j c d (inl x) (inr y) = absurd (none c d y.1)
    go i j c d (inr x) y = absurd (none c d x.1)

counted : (ns : List Node) (g : Node) → count_by is_gate (ns ++ g ∷ []) ≡ count_by is_gate ns + (0 + cond (is_gate g) 1 0)
counted ns g = sum_by-append (λ x. cond (is_gate x) 1 0) ns (g ∷ [])

pub IsSound-input : (c : Parts) → AreNodesSound c → length c.nodes + 1 < 2 ^ 31 → AreNodesSound (with_input c)
IsSound-input c s room = record {
  ordered = IsOrdered-push (c.inputs + 1) c.latches c.nodes (Input c.inputs) (IsOrdered-more c.inputs (c.inputs + 1) c.latches c.latches c.nodes (omega arith) (omega arith) s.ordered) (let lt : c.inputs < c.inputs + 1 = omega arith in lt);
  no_twins = HasNoTwins-other c.nodes (Input c.inputs) (λ a b e. cc) s.no_twins;
  counted = omega (arith, s.counted, counted c.nodes (Input c.inputs), length-append c.nodes (Input c.inputs ∷ []));
  small = omega (arith, room, length-append c.nodes (Input c.inputs ∷ []));
}

pub IsSound-latch : (c : Parts) → AreNodesSound c → length c.nodes + 1 < 2 ^ 31 → AreNodesSound (with_latch c)
IsSound-latch c s room = record {
  ordered = IsOrdered-push c.inputs (c.latches + 1) c.nodes (Latch c.latches) (IsOrdered-more c.inputs c.inputs c.latches (c.latches + 1) c.nodes (omega arith) (omega arith) s.ordered) (let lt : c.latches < c.latches + 1 = omega arith in lt);
  no_twins = HasNoTwins-other c.nodes (Latch c.latches) (λ a b e. cc) s.no_twins;
  counted = omega (arith, s.counted, counted c.nodes (Latch c.latches), length-append c.nodes (Latch c.latches ∷ []));
  small = omega (arith, room, length-append c.nodes (Latch c.latches ∷ []));
}

pub IsSound-gate : (c : Parts) (a b : ℕ) → AreNodesSound c → IsPlaced c.inputs c.latches (length c.nodes) (Gate a b) → gate_from 1 c.nodes a b ≡ None → length c.nodes + 1 < 2 ^ 31 → AreNodesSound (record c { nodes = c.nodes ++ Gate a b ∷ [] })
IsSound-gate c a b s placed none room = record {
  ordered = IsOrdered-push c.inputs c.latches c.nodes (Gate a b) s.ordered placed;
  no_twins = HasNoTwins-push c.nodes a b s.no_twins none;
  counted = omega (arith, s.counted, counted c.nodes (Gate a b), length-append c.nodes (Gate a b ∷ []));
  small = omega (arith, room, length-append c.nodes (Gate a b ∷ []));
}

-- an input or a latch has no pair
pub entries-input : (n : ℕ) (ns : List Node) (j : ℕ) → entries_from n (ns ++ Input j ∷ []) ≡ entries_from n ns
entries-input n [] j = refl
entries-input n (Input i ∷ ns) j = entries-input (suc n) ns j
entries-input n (Latch i ∷ ns) j = entries-input (suc n) ns j
entries-input n (Gate a b ∷ ns) j = ap (λ es. (record { low = a; high = b }, n) ∷ es) (entries-input (suc n) ns j)

pub entries-latch : (n : ℕ) (ns : List Node) (j : ℕ) → entries_from n (ns ++ Latch j ∷ []) ≡ entries_from n ns
entries-latch n [] j = refl
entries-latch n (Input i ∷ ns) j = entries-latch (suc n) ns j
entries-latch n (Latch i ∷ ns) j = entries-latch (suc n) ns j
entries-latch n (Gate a b ∷ ns) j = ap (λ es. (record { low = a; high = b }, n) ∷ es) (entries-latch (suc n) ns j)

entries-append : (n : ℕ) (xs ys : List Node) → entries_from n (xs ++ ys) ≡ entries_from n xs ++ entries_from (length xs + n) ys
entries-append n [] ys = ap (λ z. entries_from z ys) (let e : n ≡ 0 + n = omega arith in e)
entries-append n (Input i ∷ xs) ys = entries-append (suc n) xs ys ∙ ap (λ z. entries_from (suc n) xs ++ entries_from z ys) (let e : length xs + suc n ≡ suc (length xs) + n = omega arith in e)
entries-append n (Latch i ∷ xs) ys = entries-append (suc n) xs ys ∙ ap (λ z. entries_from (suc n) xs ++ entries_from z ys) (let e : length xs + suc n ≡ suc (length xs) + n = omega arith in e)
entries-append n (Gate a b ∷ xs) ys = ap (λ es. (record { low = a; high = b }, n) ∷ es) (entries-append (suc n) xs ys ∙ ap (λ z. entries_from (suc n) xs ++ entries_from z ys) (let e : length xs + suc n ≡ suc (length xs) + n = omega arith in e))

-- there are as many pairs as gates
pub length-entries : (n : ℕ) (ns : List Node) → length (entries_from n ns) ≡ count_by is_gate ns
length-entries n [] = refl
length-entries n (Input i ∷ ns) = length-entries (suc n) ns ∙ sym (sum_by-append (λ x. cond (is_gate x) 1 0) (Input i ∷ []) ns ∙ (let e : 0 + 0 + count_by is_gate ns ≡ count_by is_gate ns = omega arith in e))
length-entries n (Latch i ∷ ns) = length-entries (suc n) ns ∙ sym (sum_by-append (λ x. cond (is_gate x) 1 0) (Latch i ∷ []) ns ∙ (let e : 0 + 0 + count_by is_gate ns ≡ count_by is_gate ns = omega arith in e))
length-entries n (Gate a b ∷ ns) = ap suc (length-entries (suc n) ns) ∙ sym (sum_by-append (λ x. cond (is_gate x) 1 0) (Gate a b ∷ []) ns ∙ (let e : 0 + 1 + count_by is_gate ns ≡ suc (count_by is_gate ns) = omega arith in e))

-- the pairs of the first nodes stand first
pub entries-take : (k : ℕ) (ns : List Node) (g : ℕ) → g ≡ count_by is_gate (take k ns) → take g (entries_from 1 ns) ≡ entries_from 1 (take k ns)
entries-take k ns g e =
    ap (λ z. take z (entries_from 1 ns)) (e ∙ sym (length-entries 1 (take k ns)))
    ∙ ap (λ z. take (length (entries_from 1 (take k ns))) (entries_from 1 z)) (sym (take-append-drop k ns))
    ∙ ap (take (length (entries_from 1 (take k ns)))) (entries-append 1 (take k ns) (drop k ns))
    ∙ take-append_seam (entries_from 1 (take k ns)) (entries_from (length (take k ns) + 1) (drop k ns))
