-- What a type that holds a turnstile or a seat may show of it.
use base.Stored.{Coded, coded×, coded_via}
use Rattle.std.specs.Prelude.{◌≡◌}
use Rattle.atomic_table.specs.Seated.{TableId, table_id_coded}
use Rattle.gi_turn.specs.declared.view.View.{View}
use Rattle.gi_turn.specs.declared.seat.Seat.{Seat}
use Rattle.gi_turn.specs.declared.turnstile.Turnstile.{Turnstile}
use Rattle.gi_turn.specs.contracts.view.View.{the_row}

-- which turnstile
abbrev pub Place : Type 0
Place = TableId

-- for a `Model` whose value is `Place`
abbrev pub place_coded : Coded Place
place_coded = table_id_coded

abbrev pub place_of : {T : Type 0} → Seat T → Place
place_of s = s.chair.table_id

abbrev pub place_at : {T : Type 0} → Turnstile T → Place
place_at t = t.table.shared.table_id

-- the turnstile of a seat, and what the seat knows
pub record Known : Type 0 where
  pub place : Place
  pub view : View

-- for a `Model` whose value is `Known`
abbrev pub known_coded : Coded Known
known_coded = coded_via (coded× table_id_coded the_row.coded) (λ (k : Known). (k.place, k.view))
    (λ x y e i. record { place = (e i).0; view = (e i).1 })

-- what the seat shows
abbrev pub known : {T : Type 0} → Seat T → Known
known s = record { place = place_of s; view = s.chair.me.0 }

-- what is shown is of a seat of this turnstile
abbrev pub IsAt : {T : Type 0} → Turnstile T → Known → Type 0
IsAt t k = k.place ≡ place_at t
