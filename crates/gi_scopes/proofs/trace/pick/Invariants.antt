use Rattle.gi_scopes.proofs.Tracing.{PickedTo}
use Rattle.gi_scopes.proofs.trace.pick.Given as goal

abbrev pub invariant-loop-l : goal.invariant-loop-l
invariant-loop-l l = PickedTo l.trail.lits l.seen l.given l.l-index l.picked
