use Rattle.gi_aiger.proofs.Stopping.{lines_helpless, gates_helpless, ascii_helpless, binary_helpless}
use Rattle.gi_aiger.proofs.laws.no_continuation_helps.Goals as goal

pub returns-clause-lines : goal.returns-clause-lines
returns-clause-lines c = lines_helpless c.args._alloc

pub returns-clause-gates : goal.returns-clause-gates
returns-clause-gates c = gates_helpless c.args._alloc

pub returns-clause-ascii : goal.returns-clause-ascii
returns-clause-ascii c = ascii_helpless

pub returns-clause-binary : goal.returns-clause-binary
returns-clause-binary c = binary_helpless
