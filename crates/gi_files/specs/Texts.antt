-- What is printed of an input.
use Rattle.std.specs.Prelude.{ℕ, Bool, true, false, List, [], ◌∷◌, ◌++◌, length, count_by, codes, decimal}
use Rattle.gi_dimacs.specs.declared.cnf.Cnf.{Cnf}
use Rattle.gi_dimacs.specs.declared.cnf.Icnf.{Icnf}
use Rattle.gi_dimacs.specs.declared.items.Item.{Item}
use Rattle.gi_dimacs.specs.declared.items.Item.TheVariants.{Clause, Ask}
use Rattle.gi_dimacs.specs.declared.fault.CnfCode.{CnfCode}
use Rattle.gi_dimacs.specs.declared.fault.CnfCode.TheVariants.{Header, Word, Number, Limit, Unterminated}
use Rattle.gi_dimacs.specs.declared.fault.CnfFault.{CnfFault}

-- the name of a code
abbrev pub code_text : CnfCode → List ℕ
code_text Header = codes "header"
code_text Word = codes "word"
code_text Number = codes "number"
code_text Limit = codes "limit"
code_text Unterminated = codes "unterminated"

-- a refused input: the line and the code of its fault
unfoldable pub refused_text : CnfFault → List ℕ
refused_text fault = (((codes "refused " ++ decimal fault.line) ++ codes " ")
    ++ code_text fault.code) ++ 10 ∷ []

abbrev pub is_clause : Item → Bool
is_clause (Clause c) = true
is_clause (Ask lits) = false

abbrev pub is_ask : Item → Bool
is_ask (Clause c) = false
is_ask (Ask lits) = true

-- a word, a number of variables and one of clauses
abbrev pub counted : List ℕ → ℕ → ℕ → List ℕ
counted word vars clauses = ((word ++ decimal vars) ++ codes " ") ++ decimal clauses

-- the counts of an accepted CNF file: variables and clauses
unfoldable pub cnf_counts : Cnf → List ℕ
cnf_counts v = counted (codes "cnf ") v.vars (length v.clauses) ++ 10 ∷ []

-- the counts of an accepted iCNF file: variables, clauses and asks
unfoldable pub icnf_counts : Icnf → List ℕ
icnf_counts v = ((counted (codes "icnf ") v.vars (count_by is_clause v.items) ++ codes " ")
    ++ decimal (count_by is_ask v.items)) ++ 10 ∷ []
