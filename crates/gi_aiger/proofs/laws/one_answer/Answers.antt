use Rattle.gi_aiger.proofs.Stopping.{one_answer}
use Rattle.gi_aiger.proofs.laws.one_answer.Goals as goal

pub returns : goal.returns
returns c = one_answer
