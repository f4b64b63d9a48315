use Rattle.gi_cdcl.proofs.Teaching.{learnt_fresh}
use Rattle.gi_cdcl.proofs.laws.learnt_clauses_are_fresh.Goals as goal

pub returns : goal.returns
returns c = learnt_fresh
