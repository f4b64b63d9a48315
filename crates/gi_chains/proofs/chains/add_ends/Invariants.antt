use Rattle.std.proofs.Common.{◌≡◌, ◌≤◌, ◌+◌, ◌-◌, ◌++◌, replicate}
use Rattle.std.specs.Vec.{vec_len, vec_capacity}
use Rattle.gi_chains.specs.Links.{no_ends}
use Rattle.gi_chains.proofs.chains.add_ends.Given as goal

abbrev pub invariant-loop-i : goal.invariant-loop-i
invariant-loop-i l = record {
  items : l.ends.items ≡ l.fn.ends.items ++ replicate l._i no_ends;
  room : vec_len l.ends + (l.more - l._i) ≤ vec_capacity l.ends;
}
