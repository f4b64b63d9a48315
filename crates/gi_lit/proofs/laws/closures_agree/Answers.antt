use Rattle.gi_lit.proofs.Agreeing.{closures_agree, conflicts_agree}
use Rattle.gi_lit.proofs.laws.closures_agree.Goals as goal

pub returns-clause-literals : goal.returns-clause-literals
returns-clause-literals c = closures_agree

pub returns-clause-conflicts : goal.returns-clause-conflicts
returns-clause-conflicts c = conflicts_agree
