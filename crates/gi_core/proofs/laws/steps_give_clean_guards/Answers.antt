use Rattle.gi_core.proofs.Running.{runs_clean}
use Rattle.gi_core.proofs.laws.steps_give_clean_guards.Goals as goal

pub returns : goal.returns
returns c = runs_clean c.guards_are_clean.ensures
