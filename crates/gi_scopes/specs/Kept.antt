-- What is true of all open scopes.
use Rattle.std.specs.Prelude.{◌≡◌, ℕ, ◌<◌, ◌≤◌, List, [], ◌∷◌, ◌++◌, length, slice_index, slice_index_or, All, Contains}
use Rattle.gi_lit.specs.Lists.{IsSublist}
use Rattle.gi_model.specs.State.{Scope, Found, listed, failing, scope_listed}
use Rattle.gi_model.specs.Tests.{before}

-- a failing set is some of these assumptions
abbrev pub IsChosen : List ℕ → Found → Type 0
IsChosen given (listed ls) = Unit {0}
IsChosen given (failing w) = IsSublist w given

-- each scope's is of the assumptions up to its own, behind these
abbrev pub AreChosen : List ℕ → List Scope → Type 0
AreChosen given [] = Unit {0}
AreChosen given (sc ∷ scs) = IsChosen (given ++ sc.assumed) sc.found
    × AreChosen (given ++ sc.assumed) scs

-- the reasons of each listed literal are assumed or listed before it
pub record AreEarlier (scopes : List Scope) (reasons : List (List ℕ)) : Type 0 where
  pub count : length reasons ≡ length (scope_listed scopes)
  pub each : (k : ℕ) → k < length (scope_listed scopes)
      → All (Contains (before scopes (slice_index (scope_listed scopes) k)))
      (slice_index_or reasons k [])

-- and there are no more scopes than a count of 32 bits tells
pub record IsOpen (scopes : List Scope) (reasons : List (List ℕ)) : Type 0 where
  pub few : length scopes ≤ 4294967295
  pub chosen : AreChosen [] scopes
  pub earlier : AreEarlier scopes reasons

-- some scope has this failing set
pub record HasFailing (scopes : List Scope) (w : List ℕ) : Type 0 where
  pub scope : Scope
  pub stands : Contains scopes scope
  pub failed : scope.found ≡ failing w
