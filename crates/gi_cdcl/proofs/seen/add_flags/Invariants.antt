use Rattle.std.proofs.Common.{◌≡◌, ◌≤◌, ◌+◌, ◌-◌, length, vec_capacity}
use Rattle.gi_cdcl.specs.Touched.{IsBlank}
use Rattle.gi_cdcl.proofs.seen.add_flags.Given as goal

abbrev pub invariant-loop-i : goal.invariant-loop-i
invariant-loop-i l = record {
  blank : IsBlank l.flags.items;
  len : length l.flags.items ≡ length l.fn.flags.items + l._i;
  room : length l.flags.items + (l.more - l._i) ≤ vec_capacity l.flags;
}
