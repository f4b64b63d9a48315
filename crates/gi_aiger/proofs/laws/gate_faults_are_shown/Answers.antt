use Rattle.gi_aiger.proofs.Showing.{gate_faults_are_shown}
use Rattle.gi_aiger.proofs.laws.gate_faults_are_shown.Goals as goal

pub returns : goal.returns
returns c = gate_faults_are_shown c.args._alloc
