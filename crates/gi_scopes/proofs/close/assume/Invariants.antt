use Rattle.gi_scopes.proofs.Assuming.{AssumingTo}
use Rattle.gi_scopes.proofs.close.assume.Given as goal

abbrev pub invariant-loop-l : goal.invariant-loop-l
invariant-loop-l l = AssumingTo l.given l.l-index l.fn.trail l.trail
