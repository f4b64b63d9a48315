use Rattle.gi_cdcl.proofs.Values.{ValuesSoFar}
use Rattle.gi_cdcl.proofs.decide.assignment.Given as goal

abbrev pub invariant-loop-place : goal.invariant-loop-place
invariant-loop-place l = ValuesSoFar l.trail.lits l.place l.values.items
