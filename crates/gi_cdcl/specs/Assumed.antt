-- Assumptions, and what a false one goes back to.
use Rattle.std.specs.Prelude.{◌≡◌, ℕ, ◌<◌, ◌≤◌, Bool, true, false, None, List, length, take, slice_index, slice_index_or, All, Contains, ◌⊎◌}
use Rattle.gi_lit.specs.Literals.{opposite}
use Rattle.gi_lit.specs.Closure.{IsDerivation, Conflicts}
use Rattle.gi_store.specs.StoreView.{StoreView}
use Rattle.gi_prop.specs.TrailView.{TrailView, HasValue}
use Rattle.gi_cdcl.specs.Sound.{stored}
use Rattle.gi_cdcl.specs.declared.assume.Next.{Next}
use Rattle.gi_cdcl.specs.declared.assume.Next.TheVariants.{AllTrue, Free, Failed}

-- an assumption behind `least` others or more, the others before it being true where the part of
-- the trail ends
pub record IsTurn (assumed lits : List ℕ) (least l : ℕ) : Type 0 where
  pub place : ℕ
  pub low : least ≤ place
  pub within : place < length assumed
  pub is : l ≡ slice_index assumed place
  pub before : All (Contains lits) (take place assumed)

-- each level has a decision of its own, and was begun by an assumption when those before it were
-- true, or when all of them were true
pub record DecidesAssumptionsFirst (assumed : List ℕ) (t : TrailView) : Type 0 where
  pub within : (j : ℕ) → j < length t.level_starts → slice_index t.level_starts j < length t.lits
  pub strict : (i j : ℕ) → i < j → j < length t.level_starts
      → slice_index t.level_starts i < slice_index t.level_starts j
  pub each : (j : ℕ) → j < length t.level_starts
      → IsTurn assumed (take (slice_index t.level_starts j) t.lits) j
      (slice_index t.lits (slice_index t.level_starts j))
      ⊎ All (Contains (take (slice_index t.level_starts j) t.lits)) assumed

-- the first assumption that isn't true
abbrev pub IsNext : List ℕ → List ℕ → Next → Type 0
IsNext lits assumed AllTrue = All (Contains lits) assumed
IsNext lits assumed (Free l) = Contains assumed l × HasValue lits l None
IsNext lits assumed (Failed l) = Contains assumed l × Contains lits (opposite l)

-- where it has no value, it stands at this place
abbrev pub IsPlaced : List ℕ → ℕ → Next → Type 0
IsPlaced assumed place AllTrue = Unit {0}
IsPlaced assumed place (Free l) = (place < length assumed) × (l ≡ slice_index assumed place)
IsPlaced assumed place (Failed l) = Unit {0}

-- whoever derives the failed assumption, the literals at marked places below `at` and the marked
-- decisions comes to a conflict
abbrev pub LeadsFrom : StoreView → TrailView → ℕ → List Bool → ℕ → Type 0
LeadsFrom h t failed seen at = (given d : List ℕ) → IsDerivation (stored h) given d
    → Contains d failed
    → ((k : ℕ) → k < length t.lits → slice_index_or seen k false ≡ true
    → (k < at) ⊎ Contains t.level_starts k → Contains d (slice_index t.lits k))
    → Conflicts (stored h) given
