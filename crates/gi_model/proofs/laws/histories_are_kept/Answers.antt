use Rattle.gi_model.proofs.Histories.{histories_kept}
use Rattle.gi_model.proofs.laws.histories_are_kept.Goals as goal

pub returns-clause-kept : goal.returns-clause-kept
returns-clause-kept c = histories_kept

pub returns-clause-implied : goal.returns-clause-implied
returns-clause-implied c es h = (histories_kept es h).known_implied
