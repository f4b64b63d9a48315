use Rattle.std.proofs.Common.{length, take, ap, arith}
use Rattle.std.proofs.lemmas.List.{length-take-le}
use Rattle.gi_circuit.specs.Import.{Imported}
use Rattle.gi_circuit.proofs.Importing.{gate_nodes}
use Rattle.gi_circuit.proofs.import.Importer.gates.Goals as goal

pub gate-requires : goal.gate-requires
gate-requires c =
    let n = ap (λ (m : Imported). length m.system.parts.nodes) c.loop-place.invariant in
    let l = length-take-le c.loop-place.place-index c.args.places.now c.loop-place.auto.place-index-end in
    omega (arith, n, l, gate_nodes c.args.gates.now (take c.loop-place.place-index c.args.places.now) c.args.self.now, c.loop-place-test.true, c.requires.room)
