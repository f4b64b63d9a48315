use Rattle.std.proofs.Common.{◌≡◌, ℕ, ◌/◌, ◌≤◌, List, length, sym, ap, subst, arith}
use Rattle.std.specs.Prelude.{OnOk}
use Rattle.std.specs.List.{All, count_by, fold}
use Rattle.gi_circuit.specs.Nodes.{is_gate, IsOrdered}
use Rattle.gi_circuit.specs.declared.node.Node.{Node}
use Rattle.gi_circuit.specs.Frames.{with_node}
use Rattle.gi_unroll.proofs.extend.rebuild.Goals as goal

pub rebuild-requires-clause-room : goal.rebuild-requires-clause-room
rebuild-requires-clause-room c = let g = ap (count_by is_gate) c.nodes.ensures in omega (arith, g, c.requires.room)

pub rebuild-requires-clause-ordered : goal.rebuild-requires-clause-ordered
rebuild-requires-clause-ordered c =
    subst (λ (z : List ℕ). IsOrdered (record { inputs = length z; latches = length c.as_slice-2.result.now; nodes = c.nodes.result.now })) (sym c.as_slice.ensures.value)
    (subst (λ (z : List ℕ). IsOrdered (record { inputs = length c.args.begun.now.inputs.items; latches = length z; nodes = c.nodes.result.now })) (sym c.as_slice-2.ensures.value)
    (subst (λ (z : List Node). IsOrdered (record { inputs = length c.args.begun.now.inputs.items; latches = length c.args.begun.now.latches.items; nodes = z })) (sym c.nodes.ensures) c.requires.ordered))

pub rebuild-requires-clause-inputs : goal.rebuild-requires-clause-inputs
rebuild-requires-clause-inputs c = subst (λ (z : List ℕ). All (λ e. e / 2 ≤ length c.args.builder.now.net) z) (sym c.as_slice.ensures.value) c.requires.inputs

pub rebuild-requires-clause-latches : goal.rebuild-requires-clause-latches
rebuild-requires-clause-latches c = subst (λ (z : List ℕ). All (λ e. e / 2 ≤ length c.args.builder.now.net) z) (sym c.as_slice-2.ensures.value) c.requires.latches

pub returns-clause-ok : goal.returns-clause-ok
returns-clause-ok c =
    subst (λ (z : List ℕ). OnOk c.rebuild.result (c.rebuild.new.self ≡ fold (with_node z c.args.begun.now.latches.items) c.args.builder.now c.args.circuit.now.parts.nodes)) c.as_slice.ensures.value
    (subst (λ (z : List ℕ). OnOk c.rebuild.result (c.rebuild.new.self ≡ fold (with_node c.as_slice.result.now z) c.args.builder.now c.args.circuit.now.parts.nodes)) c.as_slice-2.ensures.value
    (subst (λ (z : List Node). OnOk c.rebuild.result (c.rebuild.new.self ≡ fold (with_node c.as_slice.result.now c.as_slice-2.result.now) c.args.builder.now z)) c.nodes.ensures c.rebuild.ensures.ok))
