use Rattle.std.proofs.Common.{take}
use Rattle.std.specs.List.{All}
use Rattle.gi_lit.specs.Closure.{IsSettled}
use Rattle.gi_reference.proofs.closure.look.Given as goal

abbrev pub invariant-loop-clause : goal.invariant-loop-clause
invariant-loop-clause l = All (IsSettled l.lits) (take l.clause-index l.clauses)
