-- The trail that is kept between tests, with a level for each open scope.
use Rattle.std.specs.Prelude.{◌≡◌, ℕ, ◌≤◌, ◌<◌, ◌⊎◌, ◌++◌, ◌∷◌, [], List, Option, Some, None, length, take, slice_index_or, All, Contains}
use Rattle.gi_lit.specs.Problem.{negatives}
use Rattle.gi_store.specs.StoreView.{GroupEntry, StoreView}
use Rattle.gi_prop.specs.TrailView.{TrailView, no_lits}
use Rattle.gi_prop.specs.Attached.{Goes}
use Rattle.gi_model.specs.State.{Scope, scope_assumed, scope_listed}
use Rattle.gi_scopes.specs.Under.{base_of, AreProblemKeys, AreReached, AreClosed, IsReached, IsClash}
use Rattle.gi_scopes.specs.declared.kept.Kept.{Kept}
use Rattle.gi_scopes.specs.declared.kept.Reach.{Reach}
use Rattle.gi_scopes.specs.declared.kept.Reach.TheVariants.{Closed, Stuck}
use Rattle.gi_scopes.specs.declared.clash.Clash.{Clash}

-- how long the trail was when the level above this one began; how long it is, where there is none
abbrev pub front : TrailView → ℕ → ℕ
front t j = slice_index_or t.level_starts j (length t.lits)

-- built for the clauses of this store and these scopes: the propagator goes with store and trail
-- and has just the clauses' keys, there is a level for each scope, and up to the end of each level
-- the trail is the unit closure under the assumptions up to its scope
pub record IsBuilt (k : Kept) (scopes : List Scope) (s : StoreView) : Type 0 where
  pub goes : Goes k.prop s k.trail
  pub keys : AreProblemKeys k.prop s
  pub count : length k.trail.level_starts ≡ length scopes
  pub levels : (j : ℕ) → j ≤ length scopes
      → AreClosed s (scope_assumed (take j scopes)) k.trail (front k.trail j)

-- the negative literal of a guard of one of the groups
pub record IsOfGuard (s : StoreView) (m : ℕ) : Type 0 where
  pub group : GroupEntry
  pub stands : Contains s.groups group
  pub names : Contains (negatives group.guards) m

-- each of these literals is assumed or listed by the scopes, or a guard's; and what they list is
-- among them
pub record IsCovered (s : StoreView) (scopes : List Scope) (lits : List ℕ) : Type 0 where
  pub known : All (λ m. Contains (scope_assumed scopes ++ scope_listed scopes) m ⊎ IsOfGuard s m)
      lits
  pub there : All (Contains lits) (scope_listed scopes)

-- so it is up to the end of each level above some
pub record CoversLevels (k : Kept) (scopes : List Scope) (s : StoreView) : Type 0 where
  pub levels : (j : ℕ) → k.unlisted < j → j ≤ length scopes
      → IsCovered s (take j scopes) (take (front k.trail j) k.trail.lits)

-- where one is kept
abbrev pub IsFor : Option Kept → List Scope → StoreView → Type 0
IsFor None scopes s = Unit {0}
IsFor (Some k) scopes s = IsBuilt k scopes s × CoversLevels k scopes s

-- so many scopes are open that each literal of the trail that is kept is listed, assumed or a
-- guard's
abbrev pub IsListedAbove : Option Kept → ℕ → ℕ → Type 0
IsListedAbove None depth n = ⊥
IsListedAbove (Some k) depth n = (n ≡ k.unlisted) × (n < depth)

-- its literals, none where none is kept
abbrev pub kept_lits : Option Kept → List ℕ
kept_lits None = []
kept_lits (Some k) = k.trail.lits

-- an empty trail, with the propagator of the store's problem
pub record IsFresh (k : Kept) (s : StoreView) : Type 0 where
  pub trail : k.trail ≡ no_lits s.vars
  pub goes : Goes k.prop (base_of s) k.trail
  pub keys : AreProblemKeys k.prop (base_of s)

-- a level more, whose literals were reached under these assumptions
pub record Reaches (s : StoreView) (given : List ℕ) (old new : TrailView) : Type 0 where
  pub level_starts : new.level_starts ≡ old.level_starts ++ length old.lits ∷ []
  pub more : List ℕ
  pub lits : new.lits ≡ old.lits ++ more
  pub why : List (Option ℕ)
  pub reasons : new.reasons ≡ old.reasons ++ why
  pub each : (k : ℕ) → length old.lits ≤ k → k < length new.lits → IsReached s given new k

-- each literal was reached under the assumptions, and there is a conflict
pub record IsStuck (s : StoreView) (given : List ℕ) (t : TrailView) (c : Clash) : Type 0 where
  pub vars : s.vars ≤ t.vars
  pub reached : AreReached (base_of s) given t (length t.lits)
  pub clash : IsClash s given t.lits c

-- the trail that was kept has the same literals and levels still
abbrev pub Stays : Option Kept → Reach → Type 0
Stays (Some old) (Closed k) = (k.trail.lits ≡ old.trail.lits)
    × (k.trail.level_starts ≡ old.trail.level_starts)
Stays kept reach = Unit {0}

-- with a level more
pub record IsHigher (old new : TrailView) : Type 0 where
  pub level_starts : new.level_starts ≡ old.level_starts ++ length old.lits ∷ []
  pub more : List ℕ
  pub lits : new.lits ≡ old.lits ++ more

-- the trail that was kept has a level more
abbrev pub Rises : Option Kept → Reach → Type 0
Rises (Some old) (Closed k) = IsHigher old.trail k.trail
Rises kept reach = Unit {0}

-- what unit closure under the assumptions of these scopes comes to
abbrev pub HasReached : StoreView → List Scope → Reach → Type 0
HasReached s scopes (Closed k) = IsBuilt k scopes (base_of s) × (s.vars ≤ k.trail.vars)
HasReached s scopes (Stuck k c) = IsStuck s (scope_assumed scopes) k.trail c
