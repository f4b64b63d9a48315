-- What a search knows of its trail over the clauses of a store.
use Rattle.std.specs.Prelude.{ℕ, ◌/◌, ◌<◌, Option, Some, None, List, length, take, map, slice_index, slice_index_or, Contains, ◌⊎◌}
use Rattle.gi_lit.specs.Closure.{Forces, IsClosed}
use Rattle.gi_lit.specs.Problem.{IsProblemVar}
use Rattle.gi_store.specs.StoreView.{Entry, StoreView, entries, Holds, problem_of}
use Rattle.gi_prop.specs.TrailView.{TrailView}

-- all clauses that are stored
abbrev pub stored : StoreView → List (List ℕ)
stored h = map (λ (e : Entry). e.lits) (entries h)

-- the place of a literal begins a level, or the clause of its reason forced it
abbrev pub IsSupported : StoreView → TrailView → ℕ → Option ℕ → Type 0
IsSupported h t k None = Contains t.level_starts k
IsSupported h t k (Some r) = (c : List ℕ) × Holds h r c
    × Forces c (slice_index t.lits k) (take k t.lits)

-- each literal was decided at the beginning of a level, or forced
pub record IsTrailSound (h : StoreView) (t : TrailView) : Type 0 where
  pub each : (k : ℕ) → k < length t.lits → IsSupported h t k (slice_index_or t.reasons k None)

-- nothing was left to propagate when each level began
pub record IsLeveled (h : StoreView) (t : TrailView) : Type 0 where
  pub closed : (j : ℕ) → j < length t.level_starts
      → IsClosed (stored h) (take (slice_index t.level_starts j) t.lits)

-- of a problem variable or an active guard
abbrev pub IsUsed : StoreView → ℕ → Type 0
IsUsed h l = IsProblemVar (problem_of h) (l / 2) ⊎ Contains h.active (l / 2)
