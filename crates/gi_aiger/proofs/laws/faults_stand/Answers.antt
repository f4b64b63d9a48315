use Rattle.gi_aiger.proofs.Failing.{lines_stand, gates_stand}
use Rattle.gi_aiger.proofs.laws.faults_stand.Goals as goal

pub returns-clause-lines : goal.returns-clause-lines
returns-clause-lines c = lines_stand c.args._alloc

pub returns-clause-gates : goal.returns-clause-gates
returns-clause-gates c = gates_stand c.args._alloc
