use Rattle.gi_batch.proofs.Truths.{unknowns}
use Rattle.gi_batch.proofs.laws.unknown_is_spent.Goals as goal

pub returns : goal.returns
returns c = unknowns c.histories_are_kept.ensures.kept c.learnt_clauses_are_told.ensures.known c.fresh_clauses_are_few.ensures
