use Rattle.std.proofs.Common.{◌≡◌, take, ◌++◌}
use Rattle.gi_model.proofs.lists.append.Given as goal

abbrev pub invariant-loop-l : goal.invariant-loop-l
invariant-loop-l l = l.to ≡ l.fn.to ++ take l.l-index l.lits
