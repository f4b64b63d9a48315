use Rattle.std.proofs.Common.{◌≡◌, true, take}
use Rattle.std.specs.List.{All}
use Rattle.gi_lit.specs.Literals.{opposite}
use Rattle.gi_lit.specs.Problem.{has}
use Rattle.gi_reference.proofs.closure.first_free.Given as goal

abbrev pub invariant-loop-l : goal.invariant-loop-l
invariant-loop-l l = All (λ m. has l.lits (opposite m) ≡ true) (take l.l-index l.clause)
