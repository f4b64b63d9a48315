use Rattle.gi_lit.proofs.Closure.{derived_true, conflicts_fail}
use Rattle.gi_lit.proofs.laws.unit_closure_is_sound.Goals as goal

pub returns-clause-derivations : goal.returns-clause-derivations
returns-clause-derivations c clauses given lits h k d lt values s g = (derived_true clauses given lits h values s g).each k d lt

pub returns-clause-conflicts : goal.returns-clause-conflicts
returns-clause-conflicts c = conflicts_fail
