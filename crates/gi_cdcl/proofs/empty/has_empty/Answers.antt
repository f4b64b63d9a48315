use Rattle.std.proofs.Common.{refl}
use Rattle.gi_cdcl.proofs.Empties.{none_empty, known_empty}
use Rattle.gi_cdcl.proofs.empty.has_empty.Goals as goal

pub returns-else-has_empty_in_problem-clause-yes : goal.returns-else-has_empty_in_problem-clause-yes
returns-else-has_empty_in_problem-clause-yes c q = known_empty c.args.store.now (c.has_empty_in_known.ensures.yes q)

pub returns-else-has_empty_in_problem-clause-no : goal.returns-else-has_empty_in_problem-clause-no
returns-else-has_empty_in_problem-clause-no c q = none_empty c.args.store.now (c.if-has_empty_in_problem.ensures.no refl) (c.has_empty_in_known.ensures.no q)
