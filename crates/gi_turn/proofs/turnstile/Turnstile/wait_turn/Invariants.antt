use Rattle.std.proofs.Common.{◌≡◌}
use Rattle.gi_turn.specs.Steps.{OnlyLooks}
use Rattle.gi_turn.proofs.turnstile.Turnstile.wait_turn.Given as goal

abbrev pub invariant-loop : goal.invariant-loop
invariant-loop g l =
    (goal.iterator-loop g).can_next l.iterator' × (goal.iterator-loop g).is_finite l.iterator'
    × (l.chair.table_id ≡ l.fn.chair.table_id) × (l.chair.id ≡ l.fn.chair.id) × OnlyLooks l.fn.ticket l.fn.chair.me l.chair.me
