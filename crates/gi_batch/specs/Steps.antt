-- What is asked of a machine for a file.
use Rattle.std.specs.Prelude.{◌≡◌, ℕ, List, [], ◌∷◌, ◌++◌, map}
use Rattle.std.specs.List.{flat_map}
use Rattle.gi_dimacs.specs.Relation.{IsCnf, IsIcnf}
use Rattle.gi_dimacs.specs.declared.cnf.Cnf.{Cnf}
use Rattle.gi_dimacs.specs.declared.cnf.Icnf.{Icnf}
use Rattle.gi_dimacs.specs.declared.items.Item.{Item}
use Rattle.gi_dimacs.specs.declared.items.Item.TheVariants as items
use Rattle.gi_files.specs.declared.form.Form.{Form}
use Rattle.gi_files.specs.declared.form.Form.TheVariants as forms

-- a step: so many variables, a clause, assumptions for the next solve, or a solve
pub data BatchStep : Type 0 where
  Vars : ℕ → BatchStep
  Clause : List ℕ → BatchStep
  Assume : List ℕ → BatchStep
  Solve : BatchStep

-- the variables, the clauses in order, and one solve
abbrev pub cnf_steps : Cnf → List BatchStep
cnf_steps v = Vars v.vars ∷ (map Clause v.clauses ++ Solve ∷ [])

-- an ask is a solve under its literals
abbrev pub item_steps : Item → List BatchStep
item_steps (items.Clause c) = Clause c ∷ []
item_steps (items.Ask lits) = Assume lits ∷ Solve ∷ []

-- item by item
abbrev pub icnf_steps : Icnf → List BatchStep
icnf_steps v = flat_map item_steps v.items

-- the steps of the value that the bytes have
abbrev pub HasSteps : Form → List ℕ → List BatchStep → Type 0
HasSteps forms.Cnf bytes steps = (v : Cnf) × IsCnf v bytes × (steps ≡ cnf_steps v)
HasSteps forms.Icnf bytes steps = (v : Icnf) × IsIcnf v bytes × (steps ≡ icnf_steps v)
