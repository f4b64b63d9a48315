use Rattle.std.proofs.Common.{drop}
use Rattle.gi_core.proofs.Adding.{IsAdding}
use Rattle.gi_core.proofs.solver.Solver.load.Given as goal

abbrev pub invariant-loop-clause : goal.invariant-loop-clause
invariant-loop-clause l = IsAdding l.fn.self l.self l.vars l.clauses (drop l.clause-index l.clauses)
