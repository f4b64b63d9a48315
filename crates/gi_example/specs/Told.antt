-- What the planner tells the machine, and what it is told.
use Rattle.std.specs.Prelude.{◌≡◌, Bool, List}
use Rattle.gi_lit.specs.Problem.{Problem, in_force}
use Rattle.gi_lit.specs.Truth.{Fail, Satisfies}
use Rattle.gi_model.specs.Effects.{with_problem}
use Rattle.gi_model.specs.Replies.{model_of}
use Rattle.gi_model.specs.State.{State}
use Rattle.gi_example.specs.declared.found.Found.{Found}
use Rattle.gi_example.specs.declared.found.Found.TheVariants.{Model, Failed}

-- the machine has the problem that this makes of its own
abbrev pub HasEdited : (Problem → Problem) → State → State → Type 0
HasEdited edit old new = new ≡ with_problem (edit old.problem) old

-- a model is of values that satisfy the plain clauses; assumptions that fail do so with the clauses
-- under the guards among them
abbrev pub IsTrueOf : Problem → Found → Type 0
IsTrueOf p (Model literals) = (values : List Bool) × Satisfies values p.plain
    × (literals ≡ model_of p values)
IsTrueOf p (Failed literals) = Fail (in_force p literals) literals
