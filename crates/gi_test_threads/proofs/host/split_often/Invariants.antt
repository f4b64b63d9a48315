use Rattle.std.proofs.Common.{◌≡◌}
use Rattle.gi_test_threads.proofs.host.split_often.Given as goal

abbrev pub invariant-loop : goal.invariant-loop
invariant-loop l = (l.room ≡ l.fn.room) × (l.last.place ≡ l.room)
