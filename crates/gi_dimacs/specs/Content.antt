-- What a file of either format holds.
use Rattle.std.specs.Prelude.{ℕ, ◌+◌, ◌/◌, max, List, [], ◌∷◌, ◌++◌, length, map}
use Rattle.gi_dimacs.specs.declared.items.Item.{Item}
use Rattle.gi_dimacs.specs.declared.items.Item.TheVariants.{Clause, Ask}
use Rattle.gi_dimacs.specs.declared.content.Format.{Format}
use Rattle.gi_dimacs.specs.declared.content.Format.TheVariants.{Cnf, Icnf}
use Rattle.gi_dimacs.specs.declared.content.Content.{Content}
use Rattle.gi_dimacs.specs.declared.content.Content.TheVariants.{Clauses, Items}

abbrev pub nothing : Format → Content
nothing Cnf = Clauses []
nothing Icnf = Items []

abbrev pub format_of : Content → Format
format_of (Clauses cs) = Cnf
format_of (Items items) = Icnf

-- one more item; a CNF file holds no asks
abbrev pub with_item : Content → Item → Content
with_item (Clauses cs) (Clause c) = Clauses (cs ++ c ∷ [])
with_item (Clauses cs) (Ask lits) = Clauses cs
with_item (Items items) item = Items (items ++ item ∷ [])

-- the clauses and asks
abbrev pub items_of : Content → List Item
items_of (Clauses cs) = map Clause cs
items_of (Items items) = items

-- what a file says: its greatest variable, and its clauses and asks
pub record File : Type 0 where
  pub vars : ℕ
  pub content : Content

-- how many clauses
abbrev pub clauses_in : List Item → ℕ
clauses_in [] = 0
clauses_in (Clause c ∷ items) = 1 + clauses_in items
clauses_in (Ask lits ∷ items) = clauses_in items

-- how many literals the clauses have
abbrev pub literals_in : List Item → ℕ
literals_in [] = 0
literals_in (Clause c ∷ items) = length c + literals_in items
literals_in (Ask lits ∷ items) = literals_in items

-- the greatest variable of literals, 0 if there are none
abbrev pub greatest : List ℕ → ℕ
greatest [] = 0
greatest (l ∷ ls) = max (l / 2) (greatest ls)

-- the greatest variable of clauses and asks
abbrev pub greatest_of : List Item → ℕ
greatest_of [] = 0
greatest_of (Clause c ∷ items) = max (greatest c) (greatest_of items)
greatest_of (Ask lits ∷ items) = max (greatest lits) (greatest_of items)
