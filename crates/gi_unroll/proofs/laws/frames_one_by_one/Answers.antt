use Rattle.gi_unroll.proofs.Following.{frames_one_by_one}
use Rattle.gi_unroll.proofs.laws.frames_one_by_one.Goals as goal

pub returns : goal.returns
returns c = frames_one_by_one
