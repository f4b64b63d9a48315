use Rattle.std.proofs.Common.{◌≡◌, ◌++◌, take}
use Rattle.gi_lit.specs.Problem.{negatives}
use Rattle.gi_store.proofs.guards.guarded.Given as goal

abbrev pub invariant-loop-g : goal.invariant-loop-g
invariant-loop-g l = l.lits.items ≡ l.c ++ negatives (take l.g-index l.guards)
