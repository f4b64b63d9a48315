use Rattle.std.proofs.Common.{◌≡◌, ◌≤◌, ◌+◌, ◌-◌, ◌++◌, replicate}
use Rattle.std.specs.Vec.{vec_len, vec_capacity}
use Rattle.gi_store.specs.declared.kind.VarKind.TheVariants.{Problem}
use Rattle.gi_store.proofs.guards.add_kinds.Given as goal

abbrev pub invariant-loop-i : goal.invariant-loop-i
invariant-loop-i l = record {
  items : l.kinds.items ≡ l.fn.kinds.items ++ replicate l._i Problem;
  room : vec_len l.kinds + (l.more - l._i) ≤ vec_capacity l.kinds;
}
