-- The circuit that is made of a good value keeps what always holds of circuits.
use Rattle.std.proofs.Common.{◌≡◌, ℕ, ◌+◌, ◌/◌, ◌<◌, ◌≤◌, ◌^◌, Option, Some, None, List, [], ◌∷◌, ◌++◌, length, map, get_or, set, replicate, refl, sym, ap, ◌∙◌, subst, arith, inl, inr, length-append, length-set, get_or-set_other, get_or-set_same}
use Rattle.std.specs.List.{All, fold}
use Rattle.std.proofs.lemmas.Bool.{cases_eq}
use Rattle.std.proofs.lemmas.List.{get_or-replicate, length-replicate, length-map}
use Rattle.std.proofs.lemmas.List.Elements.{All-map}
use Rattle.std.proofs.lemmas.List.FromFn.{length-range_with_len}
use Rattle.std.proofs.lemmas.List.Sorted.{length_permutation}
use Rattle.gi_aiger.specs.declared.aig.Aig.{Aig}
use Rattle.gi_aiger.specs.declared.aig.Latch.{Latch}
use Rattle.gi_aiger.specs.declared.aig.Reset.{Reset}
use Rattle.gi_aiger.specs.Good.{IsGood}
use Rattle.gi_aiger.specs.Levels.{gate_at}
use Rattle.gi_aiger.specs.Places.{places_by_level}
use Rattle.gi_aiger.proofs.Resolving.{gates_have_levels}
use Rattle.gi_circuit.specs.Nodes.{Parts, AreNodesSound, HasNoTwins, Made, and_in, folded, gate_from, gate_in, pair_of, next_edge}
use Rattle.gi_circuit.specs.Systems.{IsCircuit}
use Rattle.gi_circuit.specs.Frames.{edge_of}
use Rattle.gi_circuit.specs.Import.{Imported, imported_none, imported, with_input_of, with_latch_of, with_gate_of, system_of, circuit_of}
use Rattle.gi_circuit.specs.Importable.{GoodIsCircuit}
use Rattle.gi_circuit.specs.declared.node.Node.{Node}
use Rattle.gi_circuit.specs.declared.node.Node.TheVariants.{Input, Latch as LatchNode}
use Rattle.gi_circuit.proofs.Gates.{and_in-folded, and_in-gate, pair_placed, folded_differ}
use Rattle.gi_circuit.proofs.Sound.{IsSound-input, IsSound-latch, IsSound-gate}
use Rattle.gi_circuit.proofs.Wiring.{and_in-one}
use Rattle.gi_circuit.proofs.Meaning.{and_in-value}
use Rattle.gi_circuit.proofs.Importing.{edge_fits}
use Rattle.gi_circuit.proofs.Goodness.{importable}
use Rattle.gi_circuit.proofs.Files.{value_means}

-- nodes with an edge more, among them perhaps one more node
put_within : (es : List ℕ) (x e n k : ℕ) → n ≤ k → e / 2 ≤ k → All (λ e. e / 2 ≤ n) es → All (λ e. e / 2 ≤ k) (set es x e)
put_within es x e n k le el w j d lt = elim (cases_eq j x) [
  | inl same ↦
      let inside : x < length es = omega (arith, lt, length-set es x e, same) in
      subst (λ (z : ℕ). z / 2 ≤ k) (sym (ap (λ z. get_or (set es x e) z d) same ∙ get_or-set_same es x e d inside)) el
  | inr ne ↦
      let old = w j d (omega (arith, lt, length-set es x e)) in
      subst (λ (z : ℕ). z / 2 ≤ k) (sym (get_or-set_other es x j e d ne)) (omega (arith, old, le))
]

-- with the nodes that were made
abbrev With : Parts → Made → Type 0
With c m = AreNodesSound (record c { nodes = m.nodes })

and_in-sound : (c : Parts) (a b : ℕ) → AreNodesSound c → a / 2 ≤ length c.nodes → b / 2 ≤ length c.nodes → length c.nodes + 1 < 2 ^ 31 → AreNodesSound (record c { nodes = (and_in c.nodes a b).nodes })
and_in-sound c a b s al bl room = go (folded a b) refl
  where
    gate : (g : Option ℕ) → folded a b ≡ None → gate_from 1 c.nodes (pair_of a b).low (pair_of a b).high ≡ g → With c (and_in c.nodes a b)
    gate (Some k) f g = subst (With c) (sym (and_in-gate c.nodes a b f ∙ ap (gate_in c.nodes (pair_of a b).low (pair_of a b).high) g)) s
    gate None f g =
        subst (With c) (sym (and_in-gate c.nodes a b f ∙ ap (gate_in c.nodes (pair_of a b).low (pair_of a b).high) g))
        (IsSound-gate c (pair_of a b).low (pair_of a b).high s (pair_placed c.inputs c.latches (length c.nodes) a b (folded_differ a b f) al bl) g room)

    go : (e : Option ℕ) → folded a b ≡ e → With c (and_in c.nodes a b)
    go (Some e) f = subst (With c) (sym (and_in-folded c.nodes a b e f)) s
    go None f = gate (gate_from 1 c.nodes (pair_of a b).low (pair_of a b).high) f refl

-- a circuit in the making of so many things at most, and edges of its nodes
record IsBuilt (n : ℕ) (m : Imported) : Type 0 where
  sound : AreNodesSound m.system.parts
  few : length m.system.parts.nodes ≤ n
  within : All (λ e. e / 2 ≤ length m.system.parts.nodes) m.edges

built_input : (n : ℕ) (m : Imported) (l : ℕ) → n + 1 < 2 ^ 31 → IsBuilt n m → IsBuilt (n + 1) (with_input_of m l)
built_input n m l room b =
    let few = b.few in
    let len = length-append m.system.parts.nodes (Input m.system.parts.inputs ∷ []) in
    record {
      sound = IsSound-input m.system.parts b.sound (omega (arith, few, room));
      few = omega (arith, few, len);
      within = put_within m.edges (l / 2) (next_edge m.system.parts) (length m.system.parts.nodes) (length (m.system.parts.nodes ++ Input m.system.parts.inputs ∷ [])) (omega (arith, len)) (omega (arith, len)) b.within;
    }

built_latch : (n : ℕ) (m : Imported) (l : Latch) → n + 1 < 2 ^ 31 → IsBuilt n m → IsBuilt (n + 1) (with_latch_of m l)
built_latch n m l room b =
    let few = b.few in
    let len = length-append m.system.parts.nodes (LatchNode m.system.parts.latches ∷ []) in
    record {
      sound = IsSound-latch m.system.parts b.sound (omega (arith, few, room));
      few = omega (arith, few, len);
      within = put_within m.edges (l.lit / 2) (next_edge m.system.parts) (length m.system.parts.nodes) (length (m.system.parts.nodes ++ LatchNode m.system.parts.latches ∷ [])) (omega (arith, len)) (omega (arith, len)) b.within;
    }

module _ (v : Aig) where
  abbrev step : Imported → ℕ → Imported
  step m k = with_gate_of m (gate_at v.gates k)

  built_gate : (n : ℕ) (m : Imported) (k : ℕ) → n + 1 < 2 ^ 31 → IsBuilt n m → IsBuilt (n + 1) (step m k)
  built_gate n m k room b =
      let nodes : List Node = m.system.parts.nodes in
      let one : ℕ = edge_of m.edges (gate_at v.gates k).rhs0 in
      let two : ℕ = edge_of m.edges (gate_at v.gates k).rhs1 in
      let al = edge_fits m.edges (length m.system.parts.nodes) (gate_at v.gates k).rhs0 b.within in
      let bl = edge_fits m.edges (length m.system.parts.nodes) (gate_at v.gates k).rhs1 b.within in
      let few = b.few in
      let c = and_in-value [] [] m.system.parts b.sound.ordered (edge_of m.edges (gate_at v.gates k).rhs0) (edge_of m.edges (gate_at v.gates k).rhs1) al bl in
      let more = ap (λ (ns : List Node). length ns) c.nodes in
      let least = length-append m.system.parts.nodes c.more in
      let most = and_in-one m.system.parts.nodes (edge_of m.edges (gate_at v.gates k).rhs0) (edge_of m.edges (gate_at v.gates k).rhs1) in
      record {
        sound = and_in-sound m.system.parts (edge_of m.edges (gate_at v.gates k).rhs0) (edge_of m.edges (gate_at v.gates k).rhs1) b.sound al bl (omega (arith, few, room));
        few = omega (arith, few, most);
        within = put_within m.edges ((gate_at v.gates k).lhs / 2) (and_in m.system.parts.nodes (edge_of m.edges (gate_at v.gates k).rhs0) (edge_of m.edges (gate_at v.gates k).rhs1)).edge
            (length m.system.parts.nodes) (length (and_in m.system.parts.nodes (edge_of m.edges (gate_at v.gates k).rhs0) (edge_of m.edges (gate_at v.gates k).rhs1)).nodes) (omega (arith, more, least)) c.within b.within;
      }

-- many, one after another
built_all : {X : Type 0} (step : Imported → X → Imported) → ((n : ℕ) (m : Imported) (x : X) → n + 1 < 2 ^ 31 → IsBuilt n m → IsBuilt (n + 1) (step m x)) → (xs : List X) (n : ℕ) (m : Imported) → n + length xs < 2 ^ 31 → IsBuilt n m → IsBuilt (n + length xs) (fold step m xs)
built_all step one [] n m room b = record { sound = b.sound; few = let few = b.few in omega arith; within = b.within }
built_all step one (x ∷ xs) n m room b =
    let r = built_all step one xs (n + 1) (step m x) (omega (arith, room)) (one n m x (omega (arith, room)) b) in
    record { sound = r.sound; few = let few = r.few in omega arith; within = r.within }

built_none : (most : ℕ) → IsBuilt 0 (imported_none most)
built_none most = record {
  sound = record { ordered = record { each = λ k lt. absurd (omega arith) }; no_twins = none; counted = refl; small = omega arith };
  few = omega arith;
  within = λ k d lt. (let n : length {A = ℕ} (replicate (most + 1) 0) ≡ most + 1 = length-replicate (most + 1) 0 in let e : get_or (replicate (most + 1) 0) k d ≡ 0 = get_or-replicate (most + 1) k 0 d (omega (arith, n, lt)) in omega (arith, e));
}
  where
    none : HasNoTwins []
    none = record { each = λ i j a b x y. absurd cc }

module _ (v : Aig) (g : IsGood v) where
  abbrev places : List ℕ
  places = places_by_level v.gates

  abbrev last : Imported
  last = imported v places

  count : length places ≡ length v.gates
  count =
      let levels = gates_have_levels v.gates (importable v g).apart (importable v g).acyclic in
      let p = length_permutation _ _ levels.1.all in
      let q = length-range_with_len 0 (length v.gates) in
      omega (arith, p, q)

  built : IsBuilt (0 + length v.inputs + length v.latches + length places) last
  built =
      let room = (importable v g).room in
      let c = count in
      built_all (step v) (built_gate v) places (0 + length v.inputs + length v.latches) (fold with_latch_of (fold with_input_of (imported_none v.max) v.inputs) v.latches) (omega (arith, room, c))
      (built_all with_latch_of built_latch v.latches (0 + length v.inputs) (fold with_input_of (imported_none v.max) v.inputs) (omega (arith, room))
      (built_all with_input_of built_input v.inputs 0 (imported_none v.max) (omega (arith, room)) (built_none v.max)))

  edges_within : (es : List ℕ) → All (λ e. e / 2 ≤ length last.system.parts.nodes) (map (edge_of last.edges) es)
  edges_within es = All-map (λ e. e / 2 ≤ length last.system.parts.nodes) (edge_of last.edges) es (λ k d lt. edge_fits last.edges (length last.system.parts.nodes) (get_or es k d) built.within)

  pub good_circuit : IsCircuit (circuit_of v)
  unfolding system_of
  good_circuit =
      let m = value_means v g in
      let i = importable v g in
      record {
        net = built.sound;
        wired = record {
          resets = ap (λ (rs : List Reset). length rs) m.resets ∙ length-map v.latches (λ (l : Latch). l.reset) ∙ sym m.latches;
          nexts = length-map v.latches (λ (l : Latch). edge_of last.edges l.next) ∙ sym m.latches;
          next_nodes = All-map (λ e. e / 2 ≤ length last.system.parts.nodes) (λ (l : Latch). edge_of last.edges l.next) v.latches (λ k d lt. edge_fits last.edges (length last.system.parts.nodes) (get_or v.latches k d).next built.within);
          out_nodes = edges_within v.outs;
          bad_nodes = edges_within v.bads;
          con_nodes = edges_within v.cons;
          outs_fit = let n = length-map v.outs (edge_of last.edges) in let r = i.outs in omega (arith, n, r);
          bads_fit = let n = length-map v.bads (edge_of last.edges) in let r = i.bads in omega (arith, n, r);
          cons_fit = let n = length-map v.cons (edge_of last.edges) in let r = i.cons in omega (arith, n, r);
        };
      }

pub good_is_circuit : GoodIsCircuit
good_is_circuit v g = good_circuit v g
