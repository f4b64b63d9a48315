use Rattle.gi_core.specs.Joined.{IsLeft}
use Rattle.gi_core.proofs.Keys.{later}
use Rattle.gi_core.proofs.attaching.detach_oldest.Given as goal

abbrev pub invariant-loop-i : goal.invariant-loop-i
invariant-loop-i l = IsLeft l.fn.search l.search (later l.store l.i)
