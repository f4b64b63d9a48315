use Rattle.gi_unroll.proofs.Holding.{frames_are_traces}
use Rattle.gi_unroll.proofs.laws.frames_are_traces.Goals as goal

pub returns : goal.returns
returns c = frames_are_traces
