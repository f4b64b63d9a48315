use Rattle.std.proofs.Common.{◌-◌, length}
use Rattle.gi_core.proofs.Leaving.{AreOthers}
use Rattle.gi_core.proofs.attaching.has_guard.Given as goal

abbrev pub invariant-loop-i : goal.invariant-loop-i
invariant-loop-i l = AreOthers l.g l.clause (length l.clause - l.i)
