use Rattle.gi_scopes.specs.Under.{base_of}
use Rattle.gi_scopes.proofs.Tracing.{TracedTo}
use Rattle.gi_scopes.proofs.trace.trace.Given as goal

abbrev pub invariant-loop-at : goal.invariant-loop-at
invariant-loop-at l = TracedTo (base_of l.store) l.trail l.clause l.seen l.at

abbrev pub decreases-loop-at : goal.decreases-loop-at
decreases-loop-at l = l.at
