use Rattle.std.proofs.Common.{◌≡◌, ◌++◌, ◌/◌, map, take}
use Rattle.gi_aiger_binary.proofs.numbers.put_inputs.Given as goal

abbrev pub invariant-loop-input : goal.invariant-loop-input
invariant-loop-input l = l.variables.items ≡ l.fn.variables.items ++ map (λ l. l / 2) (take l.input-index l.inputs)
