-- What is true of each store.
use Rattle.std.specs.Prelude.{ℕ, ◌≤◌, ◌-◌, ◌<◌, List, slice_index_or, All, Contains}
use Rattle.gi_lit.specs.Literals.{max_var}
use Rattle.gi_lit.specs.Problem.{IsProblemVar, IsWellFormed}
use Rattle.gi_store.specs.StoreView.{StoreView, problem_of, known_of, IsWithin}
use Rattle.gi_store.specs.declared.kind.VarKind.{VarKind}
use Rattle.gi_store.specs.declared.kind.VarKind.TheVariants.{Problem, Active, Freed, Beyond}

-- the problem is well formed and within the limit, and learnt clauses are of its variables
pub record IsWhole (h : StoreView) : Type 0 where
  pub well_formed : IsWellFormed (problem_of h)
  pub limit : h.vars ≤ max_var
  pub known : All (IsWithin h.vars) (known_of h)

-- what a variable is
abbrev pub IsKind : StoreView → ℕ → VarKind → Type 0
IsKind h v Problem = IsProblemVar (problem_of h) v
IsKind h v Active = Contains h.active v
IsKind h v Freed = Contains h.freed v
IsKind h v Beyond = h.vars < v

-- the table has each variable's kind at its place
pub record IsTable (h : StoreView) (kinds : List VarKind) : Type 0 where
  pub each : (v : ℕ) → 1 ≤ v → v ≤ h.vars → IsKind h v (slice_index_or kinds (v - 1) Problem)
