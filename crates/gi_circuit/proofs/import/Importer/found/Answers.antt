use Rattle.std.proofs.Common.{length, ap, arith}
use Rattle.gi_circuit.specs.Import.{Imported}
use Rattle.gi_circuit.proofs.Importing.{found_fits}
use Rattle.gi_circuit.proofs.import.Importer.found.Goals as goal

pub returns-clause-within : goal.returns-clause-within
returns-clause-within c =
    let n = ap (λ (m : Imported). length m.system.parts.nodes) c.self.view_is in
    let fits = found_fits c.self.inside.edges (length c.self.inside.circuit.parts.nodes) c.args.v c.self.invariant in
    omega (arith, n, fits, c.get.ensures)
