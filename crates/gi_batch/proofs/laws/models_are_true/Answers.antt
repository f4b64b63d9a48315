use Rattle.gi_batch.proofs.Truths.{models}
use Rattle.gi_batch.proofs.laws.models_are_true.Goals as goal

pub returns : goal.returns
returns c = models
