use Rattle.gi_core.proofs.Running.{runs_told}
use Rattle.gi_core.proofs.laws.steps_tell.Goals as goal

pub returns : goal.returns
returns c = runs_told c.learnt_clauses_are_told.ensures.known c.learnt_clauses_are_told.ensures.spent
