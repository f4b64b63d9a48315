use Rattle.std.proofs.Common.{◌-◌, ◌/◌, ◌<◌, ◌≤◌, ℕ, length, sym, subst, arith}
use Rattle.gi_circuit.specs.Nodes.{IsPlaced}
use Rattle.gi_unroll.proofs.Steps.{edge_within}
use Rattle.gi_unroll.proofs.builder.Builder.node.Goals as goal

pub gate-requires-clause-first : goal.gate-requires-clause-first
gate-requires-clause-first c =
    let n : ℕ = length c.args.self.now.edges - 1 in
    let p : (c.in-Gate.a < c.in-Gate.b) × (c.in-Gate.b / 2 ≤ length c.args.self.now.edges - 1) = subst (IsPlaced (length c.args.inputs.now) (length c.args.latches.now) (length c.args.self.now.edges - 1)) c.in-Gate.is c.requires.placed in
    let lt = p.0 in
    let le = p.1 in
    subst (λ (z : ℕ). z / 2 ≤ length c.args.self.now.net) (sym c.edge.ensures) (edge_within c.args.self.now (length c.args.self.now.edges - 1) c.in-Gate.a (record { count = (let s = c.requires.some in omega arith); within = c.requires.edges }) (omega arith))

pub gate-requires-clause-second : goal.gate-requires-clause-second
gate-requires-clause-second c =
    let p : (c.in-Gate.a < c.in-Gate.b) × (c.in-Gate.b / 2 ≤ length c.args.self.now.edges - 1) = subst (IsPlaced (length c.args.inputs.now) (length c.args.latches.now) (length c.args.self.now.edges - 1)) c.in-Gate.is c.requires.placed in
    subst (λ (z : ℕ). z / 2 ≤ length c.args.self.now.net) (sym c.edge-in-Gate.ensures) (edge_within c.args.self.now (length c.args.self.now.edges - 1) c.in-Gate.b (record { count = (let s = c.requires.some in omega arith); within = c.requires.edges }) p.1)
