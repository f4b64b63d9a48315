use Rattle.std.proofs.Common.{◌≡◌, take}
use Rattle.gi_circuit.specs.Nodes.{node_values}
use Rattle.gi_circuit.proofs.net.Net.eval.Given as goal

abbrev pub invariant-loop-node : goal.invariant-loop-node
invariant-loop-node l = l.values.items ≡ node_values l.inputs l.latches (take l.node-index l.node-items)
