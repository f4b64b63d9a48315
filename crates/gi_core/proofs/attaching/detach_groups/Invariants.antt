use Rattle.std.proofs.Common.{◌-◌}
use Rattle.gi_store.specs.StoreView.{entries}
use Rattle.gi_core.specs.Joined.{IsLeft, looked_at}
use Rattle.gi_core.proofs.attaching.detach_groups.Given as goal

abbrev pub invariant-loop-i : goal.invariant-loop-i
invariant-loop-i l = IsLeft l.fn.search l.search (looked_at l.g (entries l.store) (l.count - l.i))
