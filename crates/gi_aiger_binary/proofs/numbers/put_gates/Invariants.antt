use Rattle.std.proofs.Common.{◌≡◌, ◌++◌, ◌/◌, map, take}
use Rattle.gi_aiger.specs.declared.aig.AndGate.{AndGate}
use Rattle.gi_aiger_binary.proofs.numbers.put_gates.Given as goal

abbrev pub invariant-loop-gate : goal.invariant-loop-gate
invariant-loop-gate l = l.variables.items ≡ l.fn.variables.items ++ map (λ (g : AndGate). g.lhs / 2) (take l.gate-index l.gates)
