use Rattle.gi_batch.proofs.Truths.{failures}
use Rattle.gi_batch.proofs.laws.failures_are_true.Goals as goal

pub returns : goal.returns
returns c = failures
