use Rattle.std.proofs.Common.{◌≡◌, ◌≤◌, ◌+◌, ◌-◌, ◌++◌, replicate}
use Rattle.std.specs.Vec.{vec_len, vec_capacity}
use Rattle.gi_chains.specs.Seats.{blank_seat}
use Rattle.gi_chains.proofs.chains.add_seats.Given as goal

abbrev pub invariant-loop-i : goal.invariant-loop-i
invariant-loop-i l = record {
  items : l.seats.items ≡ l.fn.seats.items ++ replicate l._i blank_seat;
  room : vec_len l.seats + (l.more - l._i) ≤ vec_capacity l.seats;
}
