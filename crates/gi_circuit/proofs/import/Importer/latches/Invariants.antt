use Rattle.std.proofs.Common.{◌≡◌, take}
use Rattle.std.specs.List.{fold}
use Rattle.gi_circuit.specs.Import.{with_latch_of}
use Rattle.gi_circuit.proofs.import.Importer.latches.Given as goal

abbrev pub invariant-loop-latch : goal.invariant-loop-latch
invariant-loop-latch l = l.self ≡ fold with_latch_of l.initial.self (take l.latch-index l.latches)
