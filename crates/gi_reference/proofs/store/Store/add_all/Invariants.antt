use Rattle.std.proofs.Common.{◌≡◌, take}
use Rattle.gi_lit.specs.Problem.{with_clauses}
use Rattle.gi_reference.proofs.store.Store.add_all.Given as goal

abbrev pub invariant-loop-clause : goal.invariant-loop-clause
invariant-loop-clause l = l.self ≡ with_clauses (take l.clause-index l.clauses) l.fn.self
