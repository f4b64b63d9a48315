-- What contracts see of open scopes: the scopes, the oldest first, and the reasons that were noted
-- for each literal that they list, and the trail that is kept.
use Rattle.std.specs.Prelude.{◌≡◌, ◌≢◌, ℕ, ◌<◌, ◌↔◌, Option, List, [], length, slice_index, slice_index_or, All, Contains}
use Rattle.gi_lit.specs.Literals.{opposite}
use Rattle.gi_lit.specs.Lists.{IsDistinct}
use Rattle.gi_lit.specs.Truth.{Fail}
use Rattle.gi_lit.specs.Problem.{Problem, in_force, full}
use Rattle.gi_model.specs.State.{State, Scope, Found, listed, failing, opening, scope_listed}
use Rattle.gi_scopes.specs.declared.kept.Kept.{Kept}

pub record Open : Type 0 where
  pub scopes : List Scope
  pub reasons : List (List ℕ)  -- one list for each literal that the scopes list, in order
  pub kept : Option Kept  -- the trail that is kept, if one is

-- a state with these scopes and these pending assumptions, which is all that the definition of a
-- test looks at
abbrev pub asked : Problem → List Scope → List ℕ → State
asked p scopes pending = record opening { problem = p; scopes = scopes; pending = pending }

-- reasons for m: the opposites of the other literals of one full clause with m, each once
pub record IsReasoned (p : Problem) (m : ℕ) (rs : List ℕ) : Type 0 where
  pub clause : List ℕ
  pub stands : Contains (full p) clause
  pub holds : Contains clause m
  pub others : (r : ℕ) → Contains rs r ↔ ((l : ℕ) × Contains clause l × (l ≢ m) × (r ≡ opposite l))
  pub distinct : IsDistinct rs

-- each listed literal has its reasons, by a clause of this problem
pub record AreExplained (p : Problem) (scopes : List Scope) (reasons : List (List ℕ)) : Type 0 where
  pub count : length reasons ≡ length (scope_listed scopes)
  pub each : (k : ℕ) → k < length (scope_listed scopes)
      → IsReasoned p (slice_index (scope_listed scopes) k) (slice_index_or reasons k [])

abbrev pub AreReasoned : Problem → Open → Type 0
AreReasoned p o = AreExplained p o.scopes o.reasons

-- a failing set fails
abbrev pub FoundFails : Problem → Found → Type 0
FoundFails p (listed ls) = Unit {0}
FoundFails p (failing w) = Fail (in_force p w) w

-- and that of a scope, if its test failed
abbrev pub ScopeFails : Problem → Scope → Type 0
ScopeFails p sc = FoundFails p sc.found

-- each failing set of these scopes still fails
abbrev pub StillFail : Problem → List Scope → Type 0
StillFail p scopes = All (ScopeFails p) scopes
