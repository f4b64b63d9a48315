use Rattle.gi_example.proofs.Telling.{unsat_is_true}
use Rattle.gi_example.proofs.planner.Planner.found.Goals as goal

pub returns-in-Unsat : goal.returns-in-Unsat
returns-in-Unsat c = unsat_is_true _ _ _ _ c.is_kept.ensures c.in-Unsat.ensures
