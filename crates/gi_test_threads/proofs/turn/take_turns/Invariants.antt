use Rattle.std.proofs.Common.{◌≡◌, false}
use Rattle.gi_turn.specs.Seats.{view_of, IsOf}
use Rattle.gi_test_threads.proofs.turn.take_turns.Given as goal

abbrev pub invariant-loop : goal.invariant-loop
invariant-loop g l = (l.turnstile ≡ l.fn.turnstile) × IsOf l.turnstile l.seat × ((view_of l.seat).turn ≡ false)
