use Rattle.gi_prop.proofs.Keys.{goes_edit, goes_clause, goes_keyed}
use Rattle.gi_prop.proofs.laws.edits_keep_goes.Goals as goal

pub returns-clause-edits : goal.returns-clause-edits
returns-clause-edits c = goes_edit

pub returns-clause-clauses : goal.returns-clause-clauses
returns-clause-clauses c = goes_clause

pub returns-clause-watched : goal.returns-clause-watched
returns-clause-watched c = goes_keyed
