use Rattle.std.proofs.Common.{take}
use Rattle.gi_lit.specs.Lists.{IsDistinct}
use Rattle.gi_reference.proofs.lists.is_distinct.Given as goal

abbrev pub invariant-loop-i : goal.invariant-loop-i
invariant-loop-i l = IsDistinct (take l.i l.lits)
