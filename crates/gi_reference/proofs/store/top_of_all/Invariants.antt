use Rattle.std.proofs.Common.{◌≡◌, take}
use Rattle.gi_reference.specs.Loading.{tops}
use Rattle.gi_reference.proofs.store.top_of_all.Given as goal

abbrev pub invariant-loop-clause : goal.invariant-loop-clause
invariant-loop-clause l = l.top ≡ tops (take l.clause-index l.clauses)
