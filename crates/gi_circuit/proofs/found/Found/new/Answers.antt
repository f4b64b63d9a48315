use Rattle.std.proofs.Common.{◌∙◌}
use Rattle.gi_aiger.specs.Tables.{value_of}
use Rattle.gi_aiger.proofs.Tabling.{told_same}
use Rattle.gi_circuit.proofs.found.Found.new.Goals as goal

pub returns : goal.returns
returns c = told_same (value_of c.new-2.result) c.args.count 0 (λ v. c.new-2.ensures v ∙ c.new.ensures)
