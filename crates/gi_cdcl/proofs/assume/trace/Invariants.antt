use Rattle.gi_cdcl.proofs.Assuming.{Tracing}
use Rattle.gi_cdcl.proofs.assume.trace.Given as goal

abbrev pub invariant-loop-at : goal.invariant-loop-at
invariant-loop-at l = Tracing l.store l.trail l.fn.failed l.seen l.at

abbrev pub decreases-loop-at : goal.decreases-loop-at
decreases-loop-at l = l.at
