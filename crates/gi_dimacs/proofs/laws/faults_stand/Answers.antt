use Rattle.gi_dimacs.proofs.Ends as ends
use Rattle.gi_dimacs.proofs.laws.faults_stand.Goals as goal

pub returns : goal.returns
returns c = ends.faults_stand
