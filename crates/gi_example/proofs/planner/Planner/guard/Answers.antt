use Rattle.gi_example.proofs.Telling.{guard_leaves}
use Rattle.gi_example.proofs.planner.Planner.guard.Goals as goal

pub returns-in-Guard-clause-made : goal.returns-in-Guard-clause-made
returns-in-Guard-clause-made c = guard_leaves _ _ _ c.in-Guard.ensures
