use Rattle.gi_model.proofs.Entering.{may_come}
use Rattle.gi_model.proofs.laws.calls_may_come.Goals as goal

pub returns : goal.returns
returns c = may_come
