use Rattle.std.proofs.Common.{arith}
use Rattle.gi_lit.proofs.Literals.{var-opposite}
use Rattle.gi_circuit.proofs.import.Importer.edge.Goals as goal

pub returns-then-is_negative-clause-within : goal.returns-then-is_negative-clause-within
returns-then-is_negative-clause-within c = let v = var-opposite c.found-edge.result in omega (arith, v, c.not.ensures, c.found-edge.ensures.within)
