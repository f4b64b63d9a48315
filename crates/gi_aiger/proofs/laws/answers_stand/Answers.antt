use Rattle.gi_aiger.proofs.Stopping.{lines_last, gates_last}
use Rattle.gi_aiger.proofs.laws.answers_stand.Goals as goal

pub returns-clause-lines : goal.returns-clause-lines
returns-clause-lines c = lines_last c.args._alloc

pub returns-clause-gates : goal.returns-clause-gates
returns-clause-gates c = gates_last c.args._alloc
