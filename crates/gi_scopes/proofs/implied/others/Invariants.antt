use Rattle.std.proofs.Common.{length}
use Rattle.gi_scopes.proofs.Noting.{NotingTo}
use Rattle.gi_scopes.proofs.implied.others.Given as goal

abbrev pub invariant-loop-l : goal.invariant-loop-l
invariant-loop-l l = NotingTo l.clause l.m l.l-index l.reasons (length l.fn.noted) l.noted
