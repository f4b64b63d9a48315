use Rattle.std.proofs.Common.{◌≡◌, ◌++◌, take}
use Rattle.std.specs.List.{flat_map}
use Rattle.gi_aiger_binary.specs.Texts.{gate_text}
use Rattle.gi_aiger_binary.proofs.writing.put_gates.Given as goal

abbrev pub invariant-loop-gate : goal.invariant-loop-gate
invariant-loop-gate l = l.out ≡ l.fn.out ++ flat_map gate_text (take l.gate-index l.gates)
