use Rattle.gi_aiger_binary.proofs.Again.{written_again}
use Rattle.gi_aiger_binary.proofs.Staying.{numbers_stay}
use Rattle.gi_aiger_binary.proofs.laws.numbers_stay.Goals as goal

pub returns-clause-stay : goal.returns-clause-stay
returns-clause-stay c = numbers_stay

pub returns-clause-again : goal.returns-clause-again
returns-clause-again c = written_again
