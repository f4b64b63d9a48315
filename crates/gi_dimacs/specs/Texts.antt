-- The texts of values, and the values that have one.
use Rattle.std.specs.Prelude.{◌≡◌, ℕ, ◌≤◌, ◌/◌, List, [], ◌∷◌, ◌++◌, length, decimal}
use Rattle.std.specs.List.{flat_map, AllByRecursion}
use Rattle.gi_dimacs.specs.declared.cnf.Cnf.{Cnf}
use Rattle.gi_dimacs.specs.declared.cnf.Icnf.{Icnf}
use Rattle.gi_dimacs.specs.declared.items.Item.{Item}
use Rattle.gi_dimacs.specs.declared.items.Item.TheVariants.{Clause, Ask}
use Rattle.gi_dimacs.specs.declared.content.Content.{Content}
use Rattle.gi_dimacs.specs.declared.content.Content.TheVariants.{Clauses, Items}
use Rattle.gi_dimacs.specs.Literals.{literal_text}
use Rattle.gi_dimacs.specs.Content.{File, items_of, clauses_in, literals_in, greatest_of}
use Rattle.gi_lit.specs.Literals.{max_var}
use Rattle.gi_dimacs.specs.Limits.{most_assumptions}

-- a clause: each literal with a space behind it, and a 0
abbrev pub clause_text : List ℕ → List ℕ
clause_text c = flat_map (λ l. literal_text l ++ 32 ∷ []) c ++ 48 ∷ []

-- an ask is such a list behind `a` and a space
abbrev pub item_text : Item → List ℕ
item_text (Clause c) = clause_text c
item_text (Ask lits) = (97 ∷ 32 ∷ []) ++ clause_text lits

abbrev pub cnf_header : ℕ → ℕ → List ℕ
cnf_header v c = (((112 ∷ 32 ∷ 99 ∷ 110 ∷ 102 ∷ 32 ∷ []) ++ decimal v) ++ 32 ∷ []) ++ decimal c

abbrev pub icnf_header : List ℕ
icnf_header = 112 ∷ 32 ∷ 105 ∷ 110 ∷ 99 ∷ 99 ∷ 110 ∷ 102 ∷ []

-- a header with the true counts, and a line for each clause
unfoldable pub cnf_text : Cnf → List ℕ
cnf_text v = (cnf_header v.vars (length v.clauses) ++ 10 ∷ [])
    ++ flat_map (λ c. clause_text c ++ 10 ∷ []) v.clauses

-- the header, and a line for each item
unfoldable pub icnf_text : Icnf → List ℕ
icnf_text v = (icnf_header ++ 10 ∷ []) ++ flat_map (λ item. item_text item ++ 10 ∷ []) v.items

abbrev pub IsLiteralOf : ℕ → ℕ → Type 0
IsLiteralOf vars l = (1 ≤ l / 2) × (l / 2 ≤ vars)

abbrev pub IsItemOf : ℕ → Item → Type 0
IsItemOf vars (Clause c) = AllByRecursion (IsLiteralOf vars) c
IsItemOf vars (Ask lits) = AllByRecursion (IsLiteralOf vars) lits × (length lits ≤ most_assumptions)

-- in iCNF the variables are those that are used
abbrev pub HasVars : ℕ → Content → Type 0
HasVars vars (Clauses cs) = Unit {0}
HasVars vars (Items items) = vars ≡ greatest_of items

-- a value that some bytes have
pub record IsGoodFile (f : File) : Type 0 where
  pub vars : f.vars ≤ max_var
  pub items : AllByRecursion (IsItemOf f.vars) (items_of f.content)
  pub used : HasVars f.vars f.content
  pub clauses : clauses_in (items_of f.content) ≤ 4194304
  pub literals : literals_in (items_of f.content) ≤ 67108864

abbrev pub cnf_file : Cnf → File
cnf_file v = record { vars = v.vars; content = Clauses v.clauses }

abbrev pub icnf_file : Icnf → File
icnf_file v = record { vars = v.vars; content = Items v.items }

abbrev pub IsGood : Cnf → Type 0
IsGood v = IsGoodFile (cnf_file v)

abbrev pub IsGoodIcnf : Icnf → Type 0
IsGoodIcnf v = IsGoodFile (icnf_file v)
