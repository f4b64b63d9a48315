use Rattle.std.proofs.Common.{take}
use Rattle.gi_prop.specs.Steps.{AreOthersFalse}
use Rattle.gi_prop.proofs.look.spare_in.Given as goal

abbrev pub invariant-loop-l : goal.invariant-loop-l
invariant-loop-l l = AreOthersFalse l.trail.lits (take l.l-index l.clause) l.other
