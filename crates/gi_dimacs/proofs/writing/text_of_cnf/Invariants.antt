use Rattle.std.proofs.Common.{◌≡◌, ◌++◌, ◌∷◌, [], take, length}
use Rattle.std.specs.List.{flat_map}
use Rattle.gi_dimacs.specs.Texts.{clause_text, cnf_header}
use Rattle.gi_dimacs.proofs.writing.text_of_cnf.Given as goal

abbrev pub invariant-loop-clause : goal.invariant-loop-clause
invariant-loop-clause l = l.out ≡ (cnf_header l.cnf.vars (length l.cnf.clauses) ++ 10 ∷ []) ++ flat_map (λ c. clause_text c ++ 10 ∷ []) (take l.clause-index l.cnf.clauses)
