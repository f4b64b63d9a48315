use Rattle.gi_batch.proofs.Truths.{answered}
use Rattle.gi_batch.proofs.laws.calls_are_answered.Goals as goal

pub returns : goal.returns
returns c = answered
