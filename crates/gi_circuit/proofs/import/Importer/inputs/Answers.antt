use Rattle.std.proofs.Common.{length, take, ap, arith}
use Rattle.std.proofs.lemmas.List.{length-take-le}
use Rattle.gi_circuit.specs.Import.{Imported}
use Rattle.gi_circuit.proofs.Importing.{input_nodes}
use Rattle.gi_circuit.proofs.import.Importer.inputs.Goals as goal

pub input-requires : goal.input-requires
input-requires c =
    let n = ap (λ (m : Imported). length m.system.parts.nodes) c.loop-literal.invariant in
    let l = length-take-le c.loop-literal.literal-index c.args.literals.now c.loop-literal.auto.literal-index-end in
    omega (arith, n, l, input_nodes (take c.loop-literal.literal-index c.args.literals.now) c.args.self.now, c.loop-literal-test.true, c.requires)
