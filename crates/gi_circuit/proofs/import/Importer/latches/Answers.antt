use Rattle.std.proofs.Common.{length, take, ap, arith}
use Rattle.std.proofs.lemmas.List.{length-take-le}
use Rattle.gi_circuit.specs.Import.{Imported}
use Rattle.gi_circuit.proofs.Importing.{latch_nodes}
use Rattle.gi_circuit.proofs.import.Importer.latches.Goals as goal

pub latch-requires : goal.latch-requires
latch-requires c =
    let n = ap (λ (m : Imported). length m.system.parts.nodes) c.loop-latch.invariant in
    let l = length-take-le c.loop-latch.latch-index c.args.latches.now c.loop-latch.auto.latch-index-end in
    omega (arith, n, l, latch_nodes (take c.loop-latch.latch-index c.args.latches.now) c.args.self.now, c.loop-latch-test.true, c.requires)
