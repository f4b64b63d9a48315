use Rattle.std.proofs.Common.{◌≡◌, ℕ, ◌+◌, ◌/◌, ◌≤◌, Option, Some, None, Result, Ok, Err, List, [], ◌∷◌, ◌++◌, length, refl, sym, ap, ◌∙◌, arith, length-append}
use Rattle.std.specs.Prelude.{IfOk, OnErr}
use Rattle.std.proofs.lemmas.List.{append-nil}
use Rattle.std.proofs.lemmas.List.Elements.{All-weaker}
use Rattle.gi_circuit.specs.Nodes.{Parts, gate_from, folded, Made, gate_in, and_in, pair_of, IsMade}
use Rattle.gi_circuit.specs.Systems.{System, IsWired}
use Rattle.gi_circuit.specs.declared.node.Node.{Node}
use Rattle.gi_circuit.specs.declared.node.Node.TheVariants.{Gate}
use Rattle.gi_circuit.proofs.Gates.{and_in-folded, and_in-gate}

-- a conjunction loses no node
pub and_in-more : (nodes : List Node) (a b : ℕ) → (more : List Node) × ((and_in nodes a b).nodes ≡ nodes ++ more) × (length more ≤ 1)
and_in-more nodes a b = go (folded a b) refl
  where
    gate : (g : Option ℕ) → folded a b ≡ None → gate_from 1 nodes (pair_of a b).low (pair_of a b).high ≡ g → (more : List Node) × ((and_in nodes a b).nodes ≡ nodes ++ more) × (length more ≤ 1)
    gate (Some k) f g = ([], ap (λ (m : Made). m.nodes) (and_in-gate nodes a b f ∙ ap (gate_in nodes (pair_of a b).low (pair_of a b).high) g) ∙ sym (append-nil nodes), omega arith)
    gate None f g = (Gate (pair_of a b).low (pair_of a b).high ∷ [], ap (λ (m : Made). m.nodes) (and_in-gate nodes a b f ∙ ap (gate_in nodes (pair_of a b).low (pair_of a b).high) g), omega arith)

    go : (o : Option ℕ) → folded a b ≡ o → (more : List Node) × ((and_in nodes a b).nodes ≡ nodes ++ more) × (length more ≤ 1)
    go (Some e) f = ([], ap (λ (m : Made). m.nodes) (and_in-folded nodes a b e f) ∙ sym (append-nil nodes), omega arith)
    go None f = gate (gate_from 1 nodes (pair_of a b).low (pair_of a b).high) f refl

pub and_in-longer : (nodes : List Node) (a b : ℕ) → length nodes ≤ length (and_in nodes a b).nodes
and_in-longer nodes a b = let m = and_in-more nodes a b in let l = ap length m.1 in omega (arith, l, length-append nodes m.0)

pub and_in-one : (nodes : List Node) (a b : ℕ) → length (and_in nodes a b).nodes ≤ length nodes + 1
and_in-one nodes a b = let m = and_in-more nodes a b in let l = ap length m.1 in let one = m.2 in omega (arith, l, one, length-append nodes m.0)

-- where there are as many nodes as before they are the same
pub and_in-same : (nodes : List Node) (a b : ℕ) → length (and_in nodes a b).nodes ≡ length nodes → (and_in nodes a b).nodes ≡ nodes
and_in-same nodes a b e = go (and_in-more nodes a b).0 (and_in-more nodes a b).1
  where
    go : (more : List Node) → (and_in nodes a b).nodes ≡ nodes ++ more → (and_in nodes a b).nodes ≡ nodes
    go [] m = m ∙ append-nil nodes
    go (x ∷ xs) m = let l = ap length m in absurd (omega (arith, e, l, length-append nodes (x ∷ xs)))

-- whether a conjunction was made or not
pub and_keeps : {E : Type 0} (old new : Parts) (a b : ℕ) (r : Result ℕ E) → IfOk r (IsMade old new (and_in old.nodes a b)) → OnErr r (new ≡ old) → (length old.nodes ≤ length new.nodes) × (new.latches ≡ old.latches)
and_keeps old new a b (Ok e) h k = let n = ap (λ (p : Parts). length p.nodes) h.nodes in let l = ap (λ (p : Parts). p.latches) h.nodes in (omega (arith, n, and_in-longer old.nodes a b), l)
and_keeps old new a b (Err x) h k = let n = ap (λ (p : Parts). length p.nodes) k in let l = ap (λ (p : Parts). p.latches) k in (omega (arith, n), l)

pub IsWired-more : (s : System) (parts : Parts) → length s.parts.nodes ≤ length parts.nodes → parts.latches ≡ s.parts.latches → IsWired s → IsWired (record s { parts = parts })
IsWired-more s parts n l w =
    let longer : (e : ℕ) → e / 2 ≤ length s.parts.nodes → e / 2 ≤ length parts.nodes = λ (e : ℕ) (h : e / 2 ≤ length s.parts.nodes). (let z : e / 2 ≤ length parts.nodes = omega arith in z) in
    record {
      resets = w.resets ∙ sym l;
      nexts = w.nexts ∙ sym l;
      next_nodes = All-weaker (λ e. e / 2 ≤ length s.parts.nodes) (λ e. e / 2 ≤ length parts.nodes) longer s.nexts w.next_nodes;
      out_nodes = All-weaker (λ e. e / 2 ≤ length s.parts.nodes) (λ e. e / 2 ≤ length parts.nodes) longer s.outs w.out_nodes;
      bad_nodes = All-weaker (λ e. e / 2 ≤ length s.parts.nodes) (λ e. e / 2 ≤ length parts.nodes) longer s.bads w.bad_nodes;
      con_nodes = All-weaker (λ e. e / 2 ≤ length s.parts.nodes) (λ e. e / 2 ≤ length parts.nodes) longer s.cons w.con_nodes;
      outs_fit = w.outs_fit;
      bads_fit = w.bads_fit;
      cons_fit = w.cons_fit;
    }
