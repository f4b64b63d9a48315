use Rattle.gi_cdcl.proofs.Going.{stay_known}
use Rattle.gi_cdcl.proofs.laws.learnt_clauses_stay_known.Goals as goal

pub returns : goal.returns
returns c = stay_known
