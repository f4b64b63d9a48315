use Rattle.std.proofs.Common.{◌≡◌, take}
use Rattle.std.specs.List.{fold}
use Rattle.gi_circuit.specs.Import.{with_input_of}
use Rattle.gi_circuit.proofs.import.Importer.inputs.Given as goal

abbrev pub invariant-loop-literal : goal.invariant-loop-literal
invariant-loop-literal l = l.self ≡ fold with_input_of l.initial.self (take l.literal-index l.literals)
