use Rattle.std.proofs.Common.{arith}
use Rattle.gi_cdcl.proofs.Stores.{used_within}
use Rattle.gi_cdcl.proofs.decide.least_free.Goals as goal

pub returns-clause-full : goal.returns-clause-full
returns-clause-full c l used = c.loop-passed.invariant.each l used (let w = used_within c.args.store.now c.vars-vars.ensures.whole.well_formed l used in let e = c.vars-vars.ensures.value in omega (arith, w.1, c.loop-passed-test.false, e))
