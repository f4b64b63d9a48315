use Rattle.std.proofs.Common.{◌≡◌, ◌+◌, ◌-◌, ◌≤◌, length}
use Rattle.gi_scopes.proofs.find.count.Given as goal

abbrev pub invariant-loop-at : goal.invariant-loop-at
invariant-loop-at g l = (l.steps ≡ l.fn.steps + (l._at - l.from)) × (length l.trail.lits ≤ l.from → l._at ≡ l.from)
