use Rattle.gi_circuit.proofs.Meaning.{and_in-value, front_edge}
use Rattle.gi_circuit.proofs.laws.conjunctions_have_their_values.Goals as goal

pub returns-clause-made : goal.returns-clause-made
returns-clause-made c = λ n a b o al bl inputs latches. and_in-value inputs latches n o a b al bl

pub returns-clause-stay : goal.returns-clause-stay
returns-clause-stay c = front_edge
