use Rattle.gi_batch.proofs.Completing.{whole}
use Rattle.gi_batch.proofs.laws.undisturbed_is_whole.Goals as goal

pub returns : goal.returns
returns c = λ result form budget old new before after s calm. whole c.one_answer.ensures form budget old new before after result s calm
