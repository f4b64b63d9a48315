use Rattle.std.proofs.Common.{◌+◌, ◌-◌}
use Rattle.gi_store.specs.StoreView.{entries}
use Rattle.gi_core.specs.Joined.{IsLeft, looked_at}
use Rattle.gi_core.proofs.attaching.detach_learnt.Given as goal

abbrev pub invariant-loop-i : goal.invariant-loop-i
invariant-loop-i l = IsLeft l.fn.search l.search (looked_at l.g (entries l.store) (l.first + (l.count - l.i)))
