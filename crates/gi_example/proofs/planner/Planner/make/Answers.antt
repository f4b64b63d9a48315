use Rattle.gi_example.proofs.Telling.{done_leaves}
use Rattle.gi_example.proofs.planner.Planner.make.Goals as goal

pub returns-in-Done : goal.returns-in-Done
returns-in-Done c = done_leaves _ _ _ c.in-Done.ensures
