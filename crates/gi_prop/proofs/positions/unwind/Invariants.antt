use Rattle.std.proofs.Common.{◌≡◌, ◌≤◌, take, length, vec_capacity}
use Rattle.gi_prop.specs.Laid.{IsTable}
use Rattle.gi_prop.proofs.positions.unwind.Given as goal

abbrev pub invariant-loop-lits : goal.invariant-loop-lits
invariant-loop-lits l = record {
  table : IsTable l.positions.items l.lits.items l.values.items;
  front : take (length l.lits.items) l.fn.lits.items ≡ l.lits.items;
  long : l.len ≤ length l.lits.items;
  capacity : vec_capacity l.fn.lits ≤ vec_capacity l.lits;
  positions : length l.positions.items ≡ length l.fn.positions.items;
}

abbrev pub decreases-loop-lits : goal.decreases-loop-lits
decreases-loop-lits l = length l.lits.items
