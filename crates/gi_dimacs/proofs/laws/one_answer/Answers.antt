use Rattle.gi_dimacs.proofs.Ends as ends
use Rattle.gi_dimacs.proofs.laws.one_answer.Goals as goal

pub returns : goal.returns
returns c = ends.one_answer
