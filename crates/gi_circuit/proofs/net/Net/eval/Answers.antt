use Rattle.std.proofs.Common.{◌≡◌, ◌+◌, ◌-◌, ◌<◌, ◌++◌, ◌∷◌, [], List, ℕ, Bool, false, length, take, sym, ap, ◌∙◌, subst, arith, get_or}
use Rattle.std.proofs.lemmas.List.{length-take-le, get_or_read, take_all}
use Rattle.std.proofs.lemmas.List.Sums.{fold_more}
use Rattle.gi_circuit.specs.Nodes.{Parts, IsPlaced, value_of, node_values}
use Rattle.gi_circuit.specs.declared.node.Node.{Node}
use Rattle.gi_circuit.specs.declared.node.Node.TheVariants.{Input}
use Rattle.gi_circuit.proofs.Gates.{length-node_values}
use Rattle.gi_circuit.proofs.net.Net.eval.Goals as goal

pub node_value-value-requires-clause-some : goal.node_value-value-requires-clause-some
node_value-value-requires-clause-some c = let n = length-node_values c.args.inputs.now c.args.latches.now (take c.loop-node.node-index c.deref-node-items.result.now) in omega (arith, n, ap length c.loop-node.invariant, ap length c.deref.ensures.value)

pub node_value-value-requires-clause-placed : goal.node_value-value-requires-clause-placed
node_value-value-requires-clause-placed c =
    let n = length-node_values c.args.inputs.now c.args.latches.now (take c.loop-node.node-index c.deref-node-items.result.now) in
    let l = length-take-le c.loop-node.node-index c.deref-node-items.result.now c.loop-node.auto.node-index-end in
    let k : length c.deref.result.now - 1 ≡ c.loop-node.node-index = omega (arith, n, l, ap length c.loop-node.invariant, ap length c.deref.ensures.value) in
    let lt : c.loop-node.node-index < length c.self.inside.nodes.items = (let x = c.loop-node-test.true in omega (arith, x, ap length c.deref-node-items.ensures.value)) in
    let at : c.node-item.result ≡ get_or c.deref-node-items.result.now c.loop-node.node-index (Input 0) = get_or_read c.deref-node-items.result.now c.loop-node.node-index c.node-item.result c.loop-node-test.true c.node-item.is (Input 0) in
    let same : get_or c.deref-node-items.result.now c.loop-node.node-index (Input 0) ≡ get_or c.self.inside.nodes.items c.loop-node.node-index (Input 0) = ap (λ z. get_or z c.loop-node.node-index (Input 0)) c.deref-node-items.ensures.value in
    let i : c.self.inside.inputs ≡ length c.args.inputs.now = ap (λ (v : Parts). v.inputs) c.self.view_is ∙ sym c.requires.inputs in
    let h : c.self.inside.latches ≡ length c.args.latches.now = ap (λ (v : Parts). v.latches) c.self.view_is ∙ sym c.requires.latches in
    subst (λ (z : ℕ). IsPlaced (length c.args.inputs.now) (length c.args.latches.now) z c.node-item.result) (sym k)
    (subst (λ (z : Node). IsPlaced (length c.args.inputs.now) (length c.args.latches.now) c.loop-node.node-index z) (sym (at ∙ same))
    (subst (λ (z : ℕ). IsPlaced z (length c.args.latches.now) c.loop-node.node-index (get_or c.self.inside.nodes.items c.loop-node.node-index (Input 0))) i
    (subst (λ (z : ℕ). IsPlaced c.self.inside.inputs z c.loop-node.node-index (get_or c.self.inside.nodes.items c.loop-node.node-index (Input 0))) h (c.self.invariant.0.ordered.each c.loop-node.node-index lt))))

pub loop-node-preserved : goal.loop-node-preserved
loop-node-preserved c =
    let f : List Bool → Node → List Bool = λ values n. values ++ value_of c.args.inputs.now c.args.latches.now values n ∷ [] in
    let at : c.node-item.result ≡ get_or c.deref-node-items.result.now c.loop-node.node-index (Input 0) = get_or_read c.deref-node-items.result.now c.loop-node.node-index c.node-item.result c.loop-node-test.true c.node-item.is (Input 0) in
    c.in_ok-push-2.ensures.items
    ∙ ap (λ z. c.loop-node.values.items ++ z ∷ []) (c.node_value-value.ensures ∙ ap (λ vs. value_of c.args.inputs.now c.args.latches.now vs c.node-item.result) c.deref.ensures.value)
    ∙ ap (λ vs. f vs c.node-item.result) c.loop-node.invariant
    ∙ ap (f (node_values c.args.inputs.now c.args.latches.now (take c.loop-node.node-index c.deref-node-items.result.now))) at
    ∙ sym (fold_more f (false ∷ []) c.deref-node-items.result.now c.loop-node.node-index (Input 0) c.loop-node-test.true)

pub returns-clause-values : goal.returns-clause-values
returns-clause-values c =
    c.from_vec.ensures
    ∙ c.loop-node.invariant
    ∙ ap (node_values c.args.inputs.now c.args.latches.now) (take_all c.loop-node.node-index c.deref-node-items.result.now c.loop-node-test.false ∙ c.deref-node-items.ensures.value ∙ ap (λ (v : Parts). v.nodes) c.self.view_is)

pub returns-clause-len : goal.returns-clause-len
returns-clause-len c =
    ap length (c.from_vec.ensures ∙ c.loop-node.invariant)
    ∙ length-node_values c.args.inputs.now c.args.latches.now (take c.loop-node.node-index c.deref-node-items.result.now)
    ∙ ap (λ z. length z + 1) (take_all c.loop-node.node-index c.deref-node-items.result.now c.loop-node-test.false ∙ c.deref-node-items.ensures.value ∙ ap (λ (v : Parts). v.nodes) c.self.view_is)
