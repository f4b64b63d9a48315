use Rattle.gi_scopes.proofs.Tracing.{MarkedTo}
use Rattle.gi_scopes.proofs.trace.mark.Given as goal

abbrev pub invariant-loop-l : goal.invariant-loop-l
invariant-loop-l l = MarkedTo l.trail.lits l.lits l.l-index l.fn.seen l.seen
