-- What a search may end with.
use Rattle.std.specs.Prelude.{◌≡◌, ℕ, ◌-◌, ◌<◌, Bool, List, [], ◌++◌, length, slice_index_or}
use Rattle.gi_lit.specs.Lists.{IsSublist}
use Rattle.gi_lit.specs.Truth.{Satisfies, MakesTrue, Fail}
use Rattle.gi_lit.specs.Closure.{Conflicts}
use Rattle.gi_lit.specs.Problem.{Problem, in_force, full}

-- there is a last clause, and it isn't empty
abbrev pub EndsNonempty : List (List ℕ) → Type 0
EndsNonempty news = (0 < length news) × (0 < length (slice_index_or news (length news - 1) []))

-- the values satisfy the clauses in force and the assumptions
pub record IsModel (p : Problem) (assumed : List ℕ) (values : List Bool) : Type 0 where
  pub count : length values ≡ p.vars
  pub clauses : Satisfies values (in_force p assumed)
  pub lits : MakesTrue values assumed

-- some of the assumptions fail with the clauses in force under them, and unit closure over all that
-- is known finds it
pub record IsFailing (p : Problem) (assumed : List ℕ) (known : List (List ℕ)) (w : List ℕ) : Type
    0 where
  pub some : IsSublist w assumed
  pub fails : Fail (in_force p w) w
  pub derived : Conflicts (full p ++ known) w
