use Rattle.gi_example.proofs.Telling.{vars_leave}
use Rattle.gi_example.proofs.planner.Planner.grow.Goals as goal

pub returns-in-Vars : goal.returns-in-Vars
returns-in-Vars c = vars_leave _ _ _ _ c.in-Vars.ensures
