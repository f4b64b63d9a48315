use Rattle.std.proofs.Common.{◌≡◌, ℕ, ◌-◌, cond, length, sym, ap, subst, arith}
use Rattle.std.proofs.lemmas.List.{get_or_read}
use Rattle.gi_circuit.specs.Nodes.{IsPlaced, is_gate}
use Rattle.gi_circuit.specs.declared.node.Node.{Node}
use Rattle.gi_circuit.specs.declared.node.Node.TheVariants.{Input}
use Rattle.gi_unroll.specs.Steps.{IsLonger}
use Rattle.gi_unroll.proofs.Steps.{nodes_so_far, gates_within, IsLonger-trans, on_err_at}
use Rattle.gi_unroll.proofs.builder.Builder.rebuild.Goals as goal

pub node-requires-clause-ready : goal.node-requires-clause-ready
node-requires-clause-ready c = (nodes_so_far c.args.inputs.now c.args.latches.now c.args.nodes.now c.loop-node.node-index c.args.self.now c.loop-node.self c.loop-node.auto.node-index-end c.requires.ready c.requires.edges c.requires.inputs c.requires.latches c.requires.ordered c.loop-node.invariant).ready

pub node-requires-clause-room : goal.node-requires-clause-room
node-requires-clause-room c =
    let n = (nodes_so_far c.args.inputs.now c.args.latches.now c.args.nodes.now c.loop-node.node-index c.args.self.now c.loop-node.self c.loop-node.auto.node-index-end c.requires.ready c.requires.edges c.requires.inputs c.requires.latches c.requires.ordered c.loop-node.invariant).grows.next in
    let g = gates_within c.args.nodes.now c.loop-node.node-index c.loop-node-test.true in
    let gate : Node → ℕ = λ z. cond (is_gate z) 1 0 in
    let at = ap gate (get_or_read c.args.nodes.now c.loop-node.node-index c.node-item.result c.loop-node-test.true c.node-item.is (Input 0)) in
    omega (arith, n, g, at, c.requires.room)

pub node-requires-clause-some : goal.node-requires-clause-some
node-requires-clause-some c =
    let n = (nodes_so_far c.args.inputs.now c.args.latches.now c.args.nodes.now c.loop-node.node-index c.args.self.now c.loop-node.self c.loop-node.auto.node-index-end c.requires.ready c.requires.edges c.requires.inputs c.requires.latches c.requires.ordered c.loop-node.invariant).edges.count in
    omega (arith, n)

pub node-requires-clause-edges : goal.node-requires-clause-edges
node-requires-clause-edges c = (nodes_so_far c.args.inputs.now c.args.latches.now c.args.nodes.now c.loop-node.node-index c.args.self.now c.loop-node.self c.loop-node.auto.node-index-end c.requires.ready c.requires.edges c.requires.inputs c.requires.latches c.requires.ordered c.loop-node.invariant).edges.within

pub node-requires-clause-placed : goal.node-requires-clause-placed
node-requires-clause-placed c =
    let n = (nodes_so_far c.args.inputs.now c.args.latches.now c.args.nodes.now c.loop-node.node-index c.args.self.now c.loop-node.self c.loop-node.auto.node-index-end c.requires.ready c.requires.edges c.requires.inputs c.requires.latches c.requires.ordered c.loop-node.invariant).edges.count in
    let k : c.loop-node.node-index ≡ length c.loop-node.self.edges - 1 = omega (arith, n) in
    let at = get_or_read c.args.nodes.now c.loop-node.node-index c.node-item.result c.loop-node-test.true c.node-item.is (Input 0) in
    subst (λ (z : ℕ). IsPlaced (length c.args.inputs.now) (length c.args.latches.now) z c.node-item.result) k
    (subst (λ (z : Node). IsPlaced (length c.args.inputs.now) (length c.args.latches.now) c.loop-node.node-index z) (sym at) (c.requires.ordered.each c.loop-node.node-index c.loop-node-test.true))

pub returns-in_err-node-clause-err : goal.returns-in_err-node-clause-err
returns-in_err-node-clause-err c =
    let l = (nodes_so_far c.args.inputs.now c.args.latches.now c.args.nodes.now c.loop-node.node-index c.args.self.now c.loop-node.self c.loop-node.auto.node-index-end c.requires.ready c.requires.edges c.requires.inputs c.requires.latches c.requires.ordered c.loop-node.invariant).grows.longer in
    on_err_at (IsLonger c.args.self.now c.node.new.self) c.from_residual.result (IsLonger-trans c.args.self.now c.loop-node.self c.node.new.self l c.in_err-node.ensures.err)
