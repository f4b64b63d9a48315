use Rattle.gi_drill.proofs.Taking.{clauses_taken, few_sat, few_unsat, none_refused, variables_told}
use Rattle.gi_drill.proofs.laws.script_is_taken.Goals as goal

pub returns : goal.returns
returns c = record { refused = none_refused; vars = variables_told; clauses = clauses_taken; sat = few_sat; unsat = few_unsat }
