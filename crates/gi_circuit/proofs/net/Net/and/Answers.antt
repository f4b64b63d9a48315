use Rattle.std.proofs.Common.{◌≡◌, ◌+◌, sym, ap, ◌∙◌, subst, length, List, [], ◌∷◌, ◌++◌, refl, arith}
use Rattle.std.specs.Map.{lookup}
use Rattle.gi_circuit.specs.Nodes.{Parts, Made, and_in, entries_from}
use Rattle.gi_circuit.specs.declared.node.Pair.{Pair}
use Rattle.gi_circuit.specs.declared.node.Node.{Node}
use Rattle.gi_circuit.specs.declared.node.Node.TheVariants.{Gate}
use Rattle.gi_circuit.specs.Nodes.{IsPlaced, AreNodesSound}
use Rattle.indexmap.proofs.CallerLemmas.{insert_entry-new}
use Rattle.gi_circuit.proofs.Gates.{lookup-entries, entries-push, folded_differ, and_in-folded, pair_placed, edge_fits, made_is, found_is}
use Rattle.gi_circuit.proofs.Sound.{IsSound-gate}
use Rattle.gi_circuit.proofs.Meaning.{folded_within}
use Rattle.gi_circuit.proofs.net.Net.and.Goals as goal

pub returns-in-Some-clause-ok : goal.returns-in-Some-clause-ok
returns-in-Some-clause-ok c =
    let e : and_in c.args.self.now.nodes c.args.a c.args.b ≡ record { nodes = c.args.self.now.nodes; edge = c.in-Some.edge } = and_in-folded _ _ _ _ (sym c.in-Some.ensures) in
    record { nodes = ap (λ (m : Made). let z : Parts = record c.args.self.now { nodes = m.nodes } in z) (sym e); edge_is = ap (λ (m : Made). m.edge) (sym e) }

pub overflow_mul-number : goal.overflow_mul-number
overflow_mul-number c =
    let e = c.in-Some-get.ensures.value ∙ ap (lookup _) c.self.invariant.1 ∙ lookup-entries _ c.ordered-pair.result.low c.ordered-pair.result.high (λ x y. refl) 1 c.self.inside.nodes.items in
    let f = edge_fits c.self.inside.nodes.items _ _ _ (sym e) in
    let n : length c.self.inside.nodes.items ≡ length c.args.self.now.nodes = ap (λ (v : Parts). length v.nodes) c.self.view_is in
    omega (arith, f, n, c.requires.room)

pub returns-in-Some-get-clause-ok : goal.returns-in-Some-get-clause-ok
returns-in-Some-get-clause-ok c =
    let e = c.in-Some-get.ensures.value ∙ ap (lookup _) c.self.invariant.1 ∙ lookup-entries _ c.ordered-pair.result.low c.ordered-pair.result.high (λ x y. refl) 1 c.self.inside.nodes.items in
    found_is c.args.self.now c.args.a c.args.b c.in-Some-get.number.now _ c.ordered-pair.result c.self.inside.nodes.items (sym c.in_default.ensures) c.ordered-pair.ensures (ap (λ (v : Parts). v.nodes) c.self.view_is) (sym e) c.new.ensures

pub invariant_of-self-2 : goal.invariant_of-self-2
invariant_of-self-2 c =
    let g = c.in_default-get.ensures.value ∙ ap (lookup _) c.self.invariant.1 ∙ lookup-entries _ c.ordered-pair.result.low c.ordered-pair.result.high (λ x y. refl) 1 c.self.inside.nodes.items in
    let items : c.push_reserved.new.self.items ≡ c.self.inside.nodes.items ++ Gate c.ordered-pair.result.low c.ordered-pair.result.high ∷ [] = c.push_reserved.ensures.items ∙ ap (λ z. z ++ Gate c.ordered-pair.result.low c.ordered-pair.result.high ∷ []) c.in_ok-reserve.ensures.items in
    let n : length c.self.inside.nodes.items ≡ length c.args.self.now.nodes = ap (λ (v : Parts). length v.nodes) c.self.view_is in
    let placed : IsPlaced c.self.inside.inputs c.self.inside.latches (length c.self.inside.nodes.items) (Gate c.ordered-pair.result.low c.ordered-pair.result.high) =
    subst (λ (p : Pair). IsPlaced c.self.inside.inputs c.self.inside.latches (length c.self.inside.nodes.items) (Gate p.low p.high)) (sym c.ordered-pair.ensures)
    (pair_placed c.self.inside.inputs c.self.inside.latches (length c.self.inside.nodes.items) c.args.a c.args.b (folded_differ c.args.a c.args.b (sym c.in_default.ensures)) (omega (arith, n, c.requires.first)) (omega (arith, n, c.requires.second))) in
    let number : c.len.result + 1 ≡ 1 + length c.self.inside.nodes.items = omega (arith, c.len.ensures, c.self.inside.nodes.ok.0) in (
      subst (λ (z : List Node). AreNodesSound (record { inputs = c.self.inside.inputs; latches = c.self.inside.latches; nodes = z })) (sym items) (IsSound-gate (record { inputs = c.self.inside.inputs; latches = c.self.inside.latches; nodes = c.self.inside.nodes.items }) c.ordered-pair.result.low c.ordered-pair.result.high c.self.invariant.0 placed (sym g) (omega (arith, n, c.requires.room))),
      c.in_ok-insert.ensures.entries
          ∙ insert_entry-new _ c.self.inside.pairs _ _ (sym c.in_default-get.ensures.value)
          ∙ ap (λ es. es ++ (c.ordered-pair.result, c.len.result + 1) ∷ []) c.self.invariant.1
          ∙ ap (λ k. entries_from 1 c.self.inside.nodes.items ++ (c.ordered-pair.result, k) ∷ []) number
          ∙ sym (entries-push 1 c.self.inside.nodes.items c.ordered-pair.result.low c.ordered-pair.result.high)
          ∙ ap (entries_from 1) (sym items),
    )

pub returns-in-Some-clause-within : goal.returns-in-Some-clause-within
returns-in-Some-clause-within c = folded_within c.args.a c.args.b c.in-Some.edge (length c.args.self.now.nodes) c.requires.first c.requires.second (sym c.in-Some.ensures)

pub returns-in-Some-get-clause-within : goal.returns-in-Some-get-clause-within
returns-in-Some-get-clause-within c =
    let e = c.in-Some-get.ensures.value ∙ ap (lookup _) c.self.invariant.1 ∙ lookup-entries _ c.ordered-pair.result.low c.ordered-pair.result.high (λ x y. refl) 1 c.self.inside.nodes.items in
    let f = edge_fits c.self.inside.nodes.items _ _ _ (sym e) in
    let n : length c.self.inside.nodes.items ≡ length c.args.self.now.nodes = ap (λ (v : Parts). length v.nodes) c.self.view_is in
    omega (arith, f, n, c.new.ensures)

pub returns-clause-ok : goal.returns-clause-ok
returns-clause-ok c =
    let g = c.in_default-get.ensures.value ∙ ap (lookup _) c.self.invariant.1 ∙ lookup-entries _ c.ordered-pair.result.low c.ordered-pair.result.high (λ x y. refl) 1 c.self.inside.nodes.items in
    let items : c.push_reserved.new.self.items ≡ c.self.inside.nodes.items ++ Gate c.ordered-pair.result.low c.ordered-pair.result.high ∷ [] = c.push_reserved.ensures.items ∙ ap (λ z. z ++ Gate c.ordered-pair.result.low c.ordered-pair.result.high ∷ []) c.in_ok-reserve.ensures.items in
    let number : c.len.result + 1 ≡ length c.self.inside.nodes.items + 1 = omega (arith, c.len.ensures, c.self.inside.nodes.ok.0) in
    made_is c.args.self.now _ c.args.a c.args.b (c.len.result + 1) _ c.ordered-pair.result c.self.inside.nodes.items (sym c.in_default.ensures) c.ordered-pair.ensures (ap (λ (v : Parts). v.nodes) c.self.view_is) (sym g)
    (ap (λ (z : List Node). let q : Parts = record { inputs = c.self.inside.inputs; latches = c.self.inside.latches; nodes = z } in q) items ∙ ap (λ (v : Parts). let q : Parts = record v { nodes = c.self.inside.nodes.items ++ Gate c.ordered-pair.result.low c.ordered-pair.result.high ∷ [] } in q) c.self.view_is)
    number c.new-2.ensures
