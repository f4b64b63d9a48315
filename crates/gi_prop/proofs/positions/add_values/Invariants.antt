use Rattle.std.proofs.Common.{◌≡◌, ◌≤◌, ◌+◌, ◌-◌, ◌++◌, replicate, None, vec_len, vec_capacity}
use Rattle.gi_prop.proofs.positions.add_values.Given as goal

abbrev pub invariant-loop-i : goal.invariant-loop-i
invariant-loop-i l = record {
  items : l.values.items ≡ l.fn.values.items ++ replicate l._i None;
  room : vec_len l.values + (l.more - l._i) ≤ vec_capacity l.values;
}
