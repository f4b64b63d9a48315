use Rattle.gi_scopes.proofs.Attaching.{IsAttaching}
use Rattle.gi_scopes.proofs.close.attach_problem.Given as goal

abbrev pub invariant-loop-i : goal.invariant-loop-i
invariant-loop-i l = IsAttaching l.store l.trail l.prop l.i
