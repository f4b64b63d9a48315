use Rattle.std.proofs.Common.{◌≡◌}
use Rattle.gi_test_threads.proofs.room.poll.Given as goal

abbrev pub invariant-loop : goal.invariant-loop
invariant-loop g l = (l.room ≡ l.fn.room) × (l.pass.place ≡ l.room)
