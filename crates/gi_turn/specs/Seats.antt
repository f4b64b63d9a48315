-- What contracts see of a seat.
use Rattle.std.specs.Prelude.{◌≡◌}
use Rattle.gi_turn.specs.declared.view.View.{View}
use Rattle.gi_turn.specs.declared.seat.Seat.{Seat}
use Rattle.gi_turn.specs.declared.turnstile.Turnstile.{Turnstile}

-- what the seat knows
abbrev pub view_of : {T : Type 0} → Seat T → View
view_of s = s.chair.me.0

-- the seat is of this turnstile
abbrev pub IsOf : {T : Type 0} → Turnstile T → Seat T → Type 0
IsOf t s = s.chair.table_id ≡ t.table.shared.table_id
