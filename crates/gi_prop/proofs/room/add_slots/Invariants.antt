use Rattle.std.proofs.Common.{◌≡◌, ◌≤◌, ◌+◌, ◌-◌, ◌++◌, replicate, None, vec_len, vec_capacity}
use Rattle.gi_prop.proofs.room.add_slots.Given as goal

abbrev pub invariant-loop-i : goal.invariant-loop-i
invariant-loop-i l = record {
  items : l.slots.items ≡ l.fn.slots.items ++ replicate l._i None;
  room : vec_len l.slots + (l.more - l._i) ≤ vec_capacity l.slots;
}
