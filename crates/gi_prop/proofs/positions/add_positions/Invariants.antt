use Rattle.std.proofs.Common.{◌≡◌, ◌≤◌, ◌+◌, ◌-◌, ◌++◌, replicate, None, vec_len, vec_capacity}
use Rattle.gi_prop.proofs.positions.add_positions.Given as goal

abbrev pub invariant-loop-i : goal.invariant-loop-i
invariant-loop-i l = record {
  items : l.positions.items ≡ l.fn.positions.items ++ replicate l._i None;
  room : vec_len l.positions + (l.more - l._i) ≤ vec_capacity l.positions;
}
