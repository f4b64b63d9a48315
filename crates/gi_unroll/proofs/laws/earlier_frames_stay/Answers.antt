use Rattle.gi_unroll.proofs.Continuing.{frames_continue, earlier_stay}
use Rattle.gi_unroll.proofs.laws.earlier_frames_stay.Goals as goal

pub returns-clause-continued : goal.returns-clause-continued
returns-clause-continued c = frames_continue

pub returns-clause-stay : goal.returns-clause-stay
returns-clause-stay c = earlier_stay
