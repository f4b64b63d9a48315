-- What a conflict teaches: its first unique implication point.
use Rattle.std.specs.Prelude.{◌≡◌, ℕ, ◌+◌, ◌-◌, ◌<◌, ◌≤◌, Some, None, List, ◌++◌, length, take, slice_index, slice_index_or, Contains, ◌↔◌}
use Rattle.gi_lit.specs.Literals.{opposite}
use Rattle.gi_lit.specs.Closure.{Forces}
use Rattle.gi_lit.specs.Problem.{without}
use Rattle.gi_store.specs.StoreView.{StoreView, Holds}
use Rattle.gi_prop.specs.TrailView.{TrailView}

-- the clause resolved with the reason of a literal
abbrev pub resolvent : List ℕ → List ℕ → ℕ → List ℕ
resolvent clause reason l = without (opposite l) clause ++ without l reason

-- a literal of the clause is false from a place of the last level before k
pub record HasHigh (t : TrailView) (start k : ℕ) (clause : List ℕ) : Type 0 where
  pub place : ℕ
  pub low : start ≤ place
  pub high : place < k
  pub stands : Contains clause (opposite (slice_index t.lits place))

-- the clauses that come by going back over the trail from a clause that is false, when the places
-- from k on were passed: where the clause so far has the opposite of a literal, and another literal
-- of the last level, it is resolved with that literal's reason
pub data IsResolved (h : StoreView) (t : TrailView) (conflict : List ℕ) (start : ℕ) : ℕ → List ℕ
    → Type 0 where
  begins : IsResolved h t conflict start (length t.lits) conflict
  passes : (k : ℕ) (c : List ℕ) → IsResolved h t conflict start (k + 1) c
      → ¬ Contains c (opposite (slice_index t.lits k)) → IsResolved h t conflict start k c
  resolves : (k r : ℕ) (c reason : List ℕ) → IsResolved h t conflict start (k + 1) c
      → Contains c (opposite (slice_index t.lits k)) → HasHigh t start k c
      → slice_index_or t.reasons k None ≡ Some r → Holds h r reason
      → Forces reason (slice_index t.lits k) (take k t.lits)
      → IsResolved h t conflict start k (resolvent c reason (slice_index t.lits k))

-- the clause has the literals of the first of them that has one literal of the last level alone
pub record IsUip (h : StoreView) (t : TrailView) (conflict : List ℕ) (start : ℕ)
    (clause : List ℕ) : Type 0 where
  pub top : ℕ
  pub low : start ≤ top
  pub high : top < length t.lits
  pub resolved : List ℕ
  pub comes : IsResolved h t conflict start (top + 1) resolved
  pub stands : Contains resolved (opposite (slice_index t.lits top))
  pub alone : ¬ HasHigh t start top resolved
  pub same : (m : ℕ) → Contains clause m ↔ Contains resolved m

-- the level to go back to: the least at which all literals but one are false
pub record IsJump (t : TrailView) (clause : List ℕ) (start level : ℕ) : Type 0 where
  pub below : level < length t.level_starts
  pub other : 0 < level → (k : ℕ) × (k < start) × (slice_index t.level_starts (level - 1) ≤ k)
      × Contains clause (opposite (slice_index t.lits k))
  pub rest : (k : ℕ) → k < start → Contains clause (opposite (slice_index t.lits k))
      → k < slice_index t.level_starts level
