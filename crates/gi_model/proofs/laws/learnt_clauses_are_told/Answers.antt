use Rattle.gi_model.specs.State.{opening}
use Rattle.gi_model.proofs.Telling.{tells_known, tells_spent}
use Rattle.gi_model.proofs.laws.learnt_clauses_are_told.Goals as goal

pub returns-clause-known : goal.returns-clause-known
returns-clause-known c es h = tells_known es opening 0 h.each tt

pub returns-clause-spent : goal.returns-clause-spent
returns-clause-spent c es h = tells_spent es opening 0 h.each tt
