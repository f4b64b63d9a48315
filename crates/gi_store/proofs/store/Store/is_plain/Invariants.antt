use Rattle.std.proofs.Common.{◌/◌, take}
use Rattle.std.specs.List.{All}
use Rattle.gi_lit.specs.Problem.{IsProblemVar}
use Rattle.gi_store.specs.StoreView.{problem_of}
use Rattle.gi_store.proofs.store.Store.is_plain.Given as goal

abbrev pub invariant-loop-l : goal.invariant-loop-l
invariant-loop-l l = All (λ x. IsProblemVar (problem_of l.self) (x / 2)) (take l.l-index l.c)
