use Rattle.std.proofs.Common.{◌≡◌, take, ◌++◌}
use Rattle.gi_reference.proofs.lists.append_copies.Given as goal

abbrev pub invariant-loop-clause : goal.invariant-loop-clause
invariant-loop-clause l = l.to.items ≡ l.fn.to.items ++ take l.clause-index l.clauses
