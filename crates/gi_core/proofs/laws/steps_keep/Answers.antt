use Rattle.gi_core.proofs.Running.{runs_sound}
use Rattle.gi_core.proofs.laws.steps_keep.Goals as goal

pub returns : goal.returns
returns c = runs_sound
