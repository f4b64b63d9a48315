use Rattle.gi_prop.proofs.Seeking.{LeftSoFar}
use Rattle.gi_prop.proofs.look.non_false.Given as goal

abbrev pub invariant-loop-l : goal.invariant-loop-l
invariant-loop-l l = LeftSoFar l.trail.lits l.clause l.l-index l.left
