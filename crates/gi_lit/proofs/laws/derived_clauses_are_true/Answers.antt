use Rattle.gi_lit.proofs.Closure.{derived_implied}
use Rattle.gi_lit.proofs.laws.derived_clauses_are_true.Goals as goal

pub returns : goal.returns
returns c = derived_implied
