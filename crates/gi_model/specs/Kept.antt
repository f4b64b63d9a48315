-- What every legal history keeps.
use Rattle.std.specs.Prelude.{◌≡◌, ℕ, ◌/◌, ◌<◌, ◌≤◌, List, [], ◌∷◌, ◌++◌, length, All}
use Rattle.gi_lit.specs.Lists.{IsSublist}
use Rattle.gi_lit.specs.Truth.{Satisfies, Fail}
use Rattle.gi_lit.specs.Problem.{Problem, in_force, clause_count, lit_count, IsAssumable, IsLiveVar, IsWellFormed}
use Rattle.gi_lit.specs.Learnt.{IsImplied}
use Rattle.gi_model.specs.Limits.{most_clauses, most_lits, most_pending, most_scopes, most_solves}
use Rattle.gi_lit.specs.Literals.{max_var}
use Rattle.gi_model.specs.State.{State, Scope, Found, listed, failing, listed_in, Run, Solve, no_solve, running, paused, ended, scope_assumed}
use Rattle.gi_model.specs.Tests.{IsListed}
use Rattle.gi_model.specs.declared.replies.Verdict.{Verdict}
use Rattle.gi_model.specs.declared.replies.Verdict.TheVariants.{Sat, Unsat, Unknown}

-- the assumptions of a solve under way
abbrev pub run_assumed : Solve → List ℕ
run_assumed (running r) = r.assumed
run_assumed (paused r) = r.assumed
run_assumed no_solve = []
run_assumed (ended n v) = []

-- what a scope lists are consequences with a cause; a failing set is of the assumptions, and fails
abbrev pub IsFoundSound : Problem → List ℕ → List ℕ → Found → Type 0
IsFoundSound p given earlier (listed ls) = IsListed p given earlier ls
IsFoundSound p given earlier (failing w) = IsSublist w given × Fail (in_force p w) w

-- each scope over the assumptions and the lists of those before it
abbrev pub AreScopesSound : Problem → List ℕ → List ℕ → List Scope → Type 0
AreScopesSound p given earlier [] = Unit {0}
AreScopesSound p given earlier (sc ∷ scs) = IsFoundSound p (given ++ sc.assumed) earlier sc.found
    × AreScopesSound p (given ++ sc.assumed) (earlier ++ listed_in sc.found) scs

-- a solve under way is the last that was started, has some of its budget left, and has learnt
-- something in each slice
pub record IsRunSound (serial : ℕ) (r : Run) : Type 0 where
  pub low : 1 ≤ r.serial
  pub last : r.serial ≡ serial
  pub left : r.spent < r.budget
  pub slices : r.slices ≤ r.spent

-- a model has a value for each variable and satisfies the plain clauses; a failing set fails
abbrev pub IsVerdictSound : Problem → Verdict → Type 0
IsVerdictSound p (Sat values) = (length values ≡ p.vars) × Satisfies values p.plain
IsVerdictSound p (Unsat w) = Fail (in_force p w) w
IsVerdictSound p (Unknown c) = Unit {0}

abbrev pub IsSolveSound : Problem → ℕ → Solve → Type 0
IsSolveSound p serial no_solve = Unit {0}
IsSolveSound p serial (running r) = IsRunSound serial r
IsSolveSound p serial (paused r) = IsRunSound serial r
IsSolveSound p serial (ended n v) = (1 ≤ n) × (n ≡ serial) × IsVerdictSound p v

-- no limit is passed by the problem
pub record IsProblemWithin (p : Problem) : Type 0 where
  pub vars : p.vars ≤ max_var
  pub clauses : clause_count p ≤ most_clauses
  pub lits : lit_count p ≤ most_lits

-- the machine's invariant
pub record IsKept (s : State) : Type 0 where
  pub clauses : IsWellFormed s.problem
  pub within : IsProblemWithin s.problem
  -- learnt clauses lie within the variables, and have no freed guard
  pub known_live : All (λ c. All (λ l. IsLiveVar s.problem (l / 2)) c) s.known
  pub known_implied : All (IsImplied s.problem) s.known
  pub pending : All (IsAssumable s.problem) s.pending  -- of problem variables, or active guards
  pub assumed : All (IsAssumable s.problem) (scope_assumed s.scopes)
  pub run : All (IsAssumable s.problem) (run_assumed s.solve)
  pub scopes : AreScopesSound s.problem [] [] s.scopes
  pub solve : IsSolveSound s.problem s.serial s.solve
  pub few_pending : length s.pending ≤ most_pending
  pub few_scopes : length s.scopes ≤ most_scopes
  pub few_solves : s.serial ≤ most_solves
