use Rattle.gi_store.proofs.Entries.{entries_without}
use Rattle.gi_store.proofs.Editing.{plain_added, group_added, learnt_added, guard_is_made, guard_is_dropped, oldest_dropped, entries_are}
use Rattle.gi_store.proofs.laws.edits_are_of_the_problem.Goals as goal

pub returns-clause-plain : goal.returns-clause-plain
returns-clause-plain c = plain_added

pub returns-clause-group : goal.returns-clause-group
returns-clause-group c = group_added

pub returns-clause-learnt : goal.returns-clause-learnt
returns-clause-learnt c = learnt_added

pub returns-clause-made : goal.returns-clause-made
returns-clause-made c = guard_is_made

pub returns-clause-dropped : goal.returns-clause-dropped
returns-clause-dropped c = guard_is_dropped

pub returns-clause-oldest : goal.returns-clause-oldest
returns-clause-oldest c = oldest_dropped

pub returns-clause-clauses : goal.returns-clause-clauses
returns-clause-clauses c = entries_are

pub returns-clause-left : goal.returns-clause-left
returns-clause-left c = entries_without
