use Rattle.std.proofs.Common.{sym}
use Rattle.gi_scopes.proofs.Assuming.{assuming_none, assuming_more, assuming_all, adds_more}
use Rattle.gi_scopes.proofs.close.assume.Goals as goal

pub loop-l-init : goal.loop-l-init
loop-l-init c = assuming_none c.args.given.now c.args.trail.now

pub loop-l-preserved : goal.loop-l-preserved
loop-l-preserved c = assuming_more c.args.given.now c.loop-l.l-index c.args.trail.now c.loop-l.trail c.take_on.new.trail c.l-item.result c.loop-l.invariant c.loop-l-test.true c.l-item.is (c.take_on.ensures.adds c.args.given.now (c.loop-l.l-index, c.loop-l-test.true, sym c.l-item.is)) c.take_on.ensures.goes (c.take_on.ensures.taken c.if-not-take_on.false)

pub returns-then-not-take_on-clause-adds : goal.returns-then-not-take_on-clause-adds
returns-then-not-take_on-clause-adds c = adds_more c.args.given.now c.args.trail.now c.loop-l.trail c.take_on.new.trail c.loop-l.invariant.adds (c.take_on.ensures.adds c.args.given.now (c.loop-l.l-index, c.loop-l-test.true, sym c.l-item.is))

pub returns-then-not-take_on-clause-goes : goal.returns-then-not-take_on-clause-goes
returns-then-not-take_on-clause-goes c p s g = c.take_on.ensures.goes p s (c.loop-l.invariant.goes p s g)

pub returns-clause-whole : goal.returns-clause-whole
returns-clause-whole c = assuming_all c.args.given.now c.loop-l.l-index c.args.trail.now c.loop-l.trail c.loop-l-test.false c.loop-l.invariant
