use Rattle.std.proofs.Common.{◌≡◌, ◌++◌, ◌∷◌, [], take}
use Rattle.std.specs.List.{flat_map}
use Rattle.gi_dimacs.specs.Literals.{literal_text}
use Rattle.gi_dimacs.proofs.writing.put_clause.Given as goal

abbrev pub invariant-loop-l : goal.invariant-loop-l
invariant-loop-l l = l.out ≡ l.fn.out ++ flat_map (λ m. literal_text m ++ 32 ∷ []) (take l.l-index l.clause)
