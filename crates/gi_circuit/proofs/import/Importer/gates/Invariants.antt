use Rattle.std.proofs.Common.{◌≡◌, ℕ, take}
use Rattle.std.specs.List.{fold}
use Rattle.gi_aiger.specs.Levels.{gate_at}
use Rattle.gi_circuit.specs.Import.{with_gate_of}
use Rattle.gi_circuit.proofs.import.Importer.gates.Given as goal

abbrev pub invariant-loop-place : goal.invariant-loop-place
invariant-loop-place l = l.self ≡ fold (λ m (r : ℕ). with_gate_of m (gate_at l.gates r)) l.initial.self (take l.place-index l.places)
