use Rattle.std.proofs.Common.{take}
use Rattle.gi_cdcl.specs.Marks.{IsBuiltOf}
use Rattle.gi_cdcl.proofs.analyze.build.Given as goal

abbrev pub invariant-loop-place : goal.invariant-loop-place
invariant-loop-place l = IsBuiltOf l.lits (take l.place-index l.touched) l.top l.start l.clause.items l.last
