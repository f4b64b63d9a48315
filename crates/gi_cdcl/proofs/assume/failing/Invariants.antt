use Rattle.gi_cdcl.proofs.Assuming.{Found}
use Rattle.gi_cdcl.proofs.assume.failing.Given as goal

abbrev pub invariant-loop-l : goal.invariant-loop-l
invariant-loop-l l = Found l.assumed l.trail.lits l.seen l.failed l.l-index l.found
