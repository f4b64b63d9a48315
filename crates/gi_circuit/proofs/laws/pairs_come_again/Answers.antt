use Rattle.gi_circuit.proofs.Again.{order_free, again}
use Rattle.gi_circuit.proofs.laws.pairs_come_again.Goals as goal

pub returns-clause-order : goal.returns-clause-order
returns-clause-order c = order_free

pub returns-clause-again : goal.returns-clause-again
returns-clause-again c = again
