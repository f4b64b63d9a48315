use Rattle.gi_unroll.proofs.Holding.{no_frame_says}
use Rattle.gi_unroll.proofs.laws.no_frame_says_nothing.Goals as goal

pub returns : goal.returns
returns c = no_frame_says
