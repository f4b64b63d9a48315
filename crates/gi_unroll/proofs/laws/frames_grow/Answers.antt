use Rattle.gi_unroll.proofs.Growing.{frames_grow}
use Rattle.gi_unroll.proofs.laws.frames_grow.Goals as goal

pub returns : goal.returns
returns c = frames_grow
