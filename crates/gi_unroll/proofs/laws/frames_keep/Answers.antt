use Rattle.gi_unroll.proofs.Continuing.{frames_keep}
use Rattle.gi_unroll.proofs.laws.frames_keep.Goals as goal

pub returns : goal.returns
returns c = frames_keep
