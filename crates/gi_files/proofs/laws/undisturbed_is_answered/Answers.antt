use Rattle.gi_files.proofs.Completing.{answered}
use Rattle.gi_files.proofs.laws.undisturbed_is_answered.Goals as goal

pub returns : goal.returns
returns c = answered c.one_answer.ensures
