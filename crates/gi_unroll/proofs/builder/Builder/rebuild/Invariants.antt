use Rattle.std.proofs.Common.{◌≡◌, take}
use Rattle.std.specs.List.{fold}
use Rattle.gi_circuit.specs.Frames.{with_node}
use Rattle.gi_unroll.proofs.builder.Builder.rebuild.Given as goal

abbrev pub invariant-loop-node : goal.invariant-loop-node
invariant-loop-node l = l.self ≡ fold (with_node l.inputs l.latches) l.initial.self (take l.node-index l.nodes)
