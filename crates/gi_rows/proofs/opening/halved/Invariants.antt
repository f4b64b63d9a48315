use Rattle.std.proofs.Common.{◌≡◌}
use Rattle.gi_rows.proofs.opening.halved.Given as goal

abbrev pub invariant-loop : goal.invariant-loop
invariant-loop l = (l.room ≡ l.fn.room) × (l.pass.place ≡ l.room)
