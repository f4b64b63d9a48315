use Rattle.gi_scopes.proofs.Failing.{none_failed_all, none_failed_more}
use Rattle.gi_scopes.proofs.level.first_failing.Goals as goal

pub loop-level-preserved : goal.loop-level-preserved
loop-level-preserved c = none_failed_more c.args.levels.now c.loop-level.level-index c.level-item.result c.loop-level-test.true c.level-item.is c.loop-level.invariant c.in-None.ensures.none

pub returns-clause-none : goal.returns-clause-none
returns-clause-none c = none_failed_all c.args.levels.now c.loop-level.level-index c.loop-level-test.false c.loop-level.invariant
