use Rattle.std.proofs.Common.{arith}
use Rattle.gi_cdcl.proofs.Going.{deep_full}
use Rattle.gi_cdcl.proofs.learn.handle_conflict.Goals as goal

pub returns-clause-root : goal.returns-clause-root
returns-clause-root c e = deep_full c.args.store.now c.args.state.now.trail c.requires.ready (omega (arith, c.if-level-eq0.false, c.level.ensures.value)) e
