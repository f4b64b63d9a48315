use Rattle.gi_cdcl.proofs.Marking.{MarksSoFar}
use Rattle.gi_cdcl.proofs.analyze.mark_seen.Given as goal

abbrev pub invariant-loop-l : goal.invariant-loop-l
invariant-loop-l l = MarksSoFar l.trail.lits l.clause l.l-index l.start l.end l.fn.seen l.seen l.more
