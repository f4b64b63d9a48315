use Rattle.gi_core.proofs.Running.{runs_after}
use Rattle.gi_core.proofs.laws.steps_are_legal.Goals as goal

pub returns : goal.returns
returns c = runs_after
