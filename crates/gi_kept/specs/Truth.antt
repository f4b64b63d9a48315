-- When a printed model is true to what is kept.
use Rattle.std.specs.Prelude.{◌≡◌, ℕ, ◌/◌, ◌||◌, Bool, true, List, All}
use Rattle.std.specs.List.{list_any}
use Rattle.gi_lit.specs.Problem.{has}
use Rattle.gi_kept.specs.Kept.{Kept, in_force}

-- one literal of the clause stands in the model
abbrev pub meets : List ℕ → List ℕ → Bool
meets model clause = list_any (has model) clause

-- the literal is of a guard, or stands in the model
abbrev pub holds : List ℕ → List ℕ → ℕ → Bool
holds guards model l = has guards (l / 2) || has model l

-- each clause in force has one of its literals in the model, and each assumption whose variable is
-- no guard stands in it
pub record IsTrueTo (k : Kept) (model : List ℕ) : Type 0 where
  pub clauses : All (λ c. meets model c ≡ true) (in_force k)
  pub assumed : All (λ l. holds k.guards model l ≡ true) k.assumed
