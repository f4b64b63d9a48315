use Rattle.std.proofs.Common.{◌≡◌, map, take}
use Rattle.gi_aiger_binary.specs.Renumbering.{gate_by}
use Rattle.gi_aiger.specs.Tables.{value_of}
use Rattle.gi_aiger_binary.proofs.renumbering.gates.Given as goal

abbrev pub invariant-loop-item : goal.invariant-loop-item
invariant-loop-item l = l.out ≡ map (gate_by (value_of l.fn.numbers)) (take l.item-index l.gates)
