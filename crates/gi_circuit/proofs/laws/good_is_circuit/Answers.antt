use Rattle.gi_circuit.proofs.Built.{good_is_circuit}
use Rattle.gi_circuit.proofs.laws.good_is_circuit.Goals as goal

pub returns : goal.returns
returns c = good_is_circuit
