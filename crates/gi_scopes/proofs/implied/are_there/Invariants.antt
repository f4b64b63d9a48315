use Rattle.std.proofs.Common.{take}
use Rattle.std.specs.List.{All, Contains}
use Rattle.gi_scopes.proofs.implied.are_there.Given as goal

abbrev pub invariant-loop-l : goal.invariant-loop-l
invariant-loop-l l = All (Contains l.trail.lits) (take l.l-index l.lits)
