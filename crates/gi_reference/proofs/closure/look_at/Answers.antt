use Rattle.std.proofs.Common.{sym}
use Rattle.gi_reference.proofs.Saturating.{settled_true, falsified, settled_two, forces}
use Rattle.gi_reference.proofs.closure.look_at.Goals as goal

pub returns-then-has_some : goal.returns-then-has_some
returns-then-has_some c = settled_true c.args.lits.now c.args.clause.now (sym c.if-has_some.ensures)

pub returns-in-None : goal.returns-in-None
returns-in-None c = falsified c.args.lits.now c.args.clause.now c.in-None.ensures.none

pub returns-then-has_other_free : goal.returns-then-has_other_free
returns-then-has_other_free c = settled_two c.args.lits.now c.args.clause.now c.in-Some.l c.in-Some.ensures.some.0 c.in-Some.ensures.some.1 (sym c.if-has_other_free.ensures)

pub returns-else-has_other_free : goal.returns-else-has_other_free
returns-else-has_other_free c = (forces c.args.lits.now c.args.clause.now c.in-Some.l c.in-Some.ensures.some.0 c.in-Some.ensures.some.1 (sym c.if-has_other_free.ensures), sym c.if-has_some.ensures)
