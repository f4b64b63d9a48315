use Rattle.std.proofs.Common.{◌≡◌, map, take}
use Rattle.gi_aiger.specs.Places.{node_by}
use Rattle.gi_aiger.specs.Tables.{value_of}
use Rattle.gi_aiger.proofs.gates.nodes_of.Given as goal

abbrev pub invariant-loop-gate : goal.invariant-loop-gate
invariant-loop-gate l = l.nodes.items ≡ map (node_by (value_of l.places)) (take l.gate-index l.gates)
