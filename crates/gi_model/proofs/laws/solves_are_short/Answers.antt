use Rattle.gi_model.proofs.Bounding.{solves_are_short}
use Rattle.gi_model.proofs.laws.solves_are_short.Goals as goal

pub returns : goal.returns
returns c = solves_are_short
