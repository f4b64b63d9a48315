use Rattle.gi_dimacs.proofs.Ends as ends
use Rattle.gi_dimacs.proofs.laws.good_values.Goals as goal

pub returns : goal.returns
returns c = ends.good_values
