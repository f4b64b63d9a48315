use Rattle.gi_turn.proofs.Kinship.{sole_joined}
use Rattle.gi_turn.proofs.laws.sole_again.Goals as goal

pub returns : goal.returns
returns c = sole_joined
