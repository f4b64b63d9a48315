-- Marks on the places of a trail, for the literals of the clause that is learnt.
use Rattle.std.specs.Prelude.{zero, suc, ◌≡◌, ℕ, ◌+◌, ◌/◌, ◌<◌, ◌≤◌, Bool, true, false, if◌then◌else◌, Option, Some, None, List, [], ◌∷◌, length, slice_index, slice_index_or, All, Contains, ◌⊎◌, ◌↔◌}
use Rattle.gi_lit.specs.Literals.{opposite}
use Rattle.gi_lit.specs.Closure.{IsFalsified}
use Rattle.gi_store.specs.StoreView.{StoreView, Holds}
use Rattle.gi_prop.specs.TrailView.{TrailView, StandsAt}
use Rattle.gi_cdcl.specs.Uip.{IsResolved}

-- how many of the first n places are marked
abbrev pub marked : ℕ → List Bool → ℕ
marked zero bs = 0
marked (suc n) [] = 0
marked (suc n) (b ∷ bs) = (if b then 1 else 0) + marked n bs

-- the literal is false from a marked place before n
pub record IsMarked (lits : List ℕ) (seen : List Bool) (n m : ℕ) : Type 0 where
  pub place : ℕ
  pub before : place < n
  pub flag : slice_index_or seen place false ≡ true
  pub is : m ≡ opposite (slice_index lits place)

-- a place of the clause's variables
pub record IsPlaceIn (lits clause : List ℕ) (place : ℕ) : Type 0 where
  pub lit : ℕ
  pub stands : Contains clause lit
  pub at : StandsAt lits (lit / 2) place

-- the places of the clause's variables before `end` are marked, and no others; more is how many
-- marks are new from `start` on
pub record Marks (lits clause : List ℕ) (start end : ℕ) (old new : List Bool) (more : ℕ) : Type
    0 where
  pub len : length new ≡ length old
  pub keeps : (k : ℕ) → slice_index_or old k false ≡ true → slice_index_or new k false ≡ true
  pub all : All (λ m. (p : ℕ) → p < end → StandsAt lits (m / 2) p
      → slice_index_or new p false ≡ true) clause
  pub only : (k : ℕ) → slice_index_or new k false ≡ true
      → (slice_index_or old k false ≡ true) ⊎ ((k < end) × IsPlaceIn lits clause k)
  pub count : marked end new + marked start old ≡ marked end old + marked start new + more

-- the clause that was resolved has its literals at marked places, of which one is of the last
-- level, at `top`
pub record IsCut (h : StoreView) (t : TrailView) (conflict : List ℕ) (start : ℕ) (seen : List Bool)
    (top : ℕ) : Type 0 where
  pub len : length t.lits ≤ length seen
  pub low : start ≤ top
  pub high : top < length t.lits
  pub flag : slice_index_or seen top false ≡ true
  pub alone : (k : ℕ) → start ≤ k → k < top → slice_index_or seen k false ≡ false
  pub resolved : List ℕ
  pub comes : IsResolved h t conflict start (top + 1) resolved
  pub is : (m : ℕ) → Contains resolved m ↔ IsMarked t.lits seen (top + 1) m

-- no mark, or the last one, among the first n places
abbrev pub IsLast : List Bool → ℕ → Option ℕ → Type 0
IsLast seen n None = (k : ℕ) → k < n → slice_index_or seen k false ≡ false
IsLast seen n (Some p) = (p < n) × (slice_index_or seen p false ≡ true)
    × ((k : ℕ) → p < k → k < n → slice_index_or seen k false ≡ false)

-- the clause of the literal at `top` and of those at marked places among the first n, with the last
-- of these
pub record IsBuilt (lits : List ℕ) (seen : List Bool) (top n : ℕ) (clause : List ℕ)
    (last : Option ℕ) : Type 0 where
  pub stands : Contains clause (opposite (slice_index lits top))
  pub all : (k : ℕ) → k < n → slice_index_or seen k false ≡ true
      → Contains clause (opposite (slice_index lits k))
  pub only : (m : ℕ) → Contains clause m
      → (m ≡ opposite (slice_index lits top)) ⊎ IsMarked lits seen n m
  pub last_is : IsLast seen n last

-- the greater of a place that may be missing and another
abbrev pub IsLastOf : Option ℕ → ℕ → ℕ → Type 0
IsLastOf None place n = n ≡ place
IsLastOf (Some p) place n = (p ≤ n) × (place ≤ n) × ((n ≡ p) ⊎ (n ≡ place))

-- no place before n, or the last one, among these
abbrev pub IsLastIn : List ℕ → ℕ → Option ℕ → Type 0
IsLastIn touched n None = (k : ℕ) → Contains touched k → n ≤ k
IsLastIn touched n (Some p) = (p < n) × Contains touched p
    × ((k : ℕ) → Contains touched k → k < n → k ≤ p)

-- one of these places, before n, makes the literal false
pub record IsAmong (lits touched : List ℕ) (n m : ℕ) : Type 0 where
  pub place : ℕ
  pub inside : Contains touched place
  pub before : place < n
  pub is : m ≡ opposite (slice_index lits place)

-- the clause of the literal at `top` and of those at these places before n, with the last of these
pub record IsBuiltOf (lits touched : List ℕ) (top n : ℕ) (clause : List ℕ) (last : Option ℕ) : Type
    0 where
  pub stands : Contains clause (opposite (slice_index lits top))
  pub all : (k : ℕ) → Contains touched k → k < n → Contains clause (opposite (slice_index lits k))
  pub only : (m : ℕ) → Contains clause m
      → (m ≡ opposite (slice_index lits top)) ⊎ IsAmong lits touched n m
  pub last_is : IsLastIn touched n last

-- the clause of the key is false
pub record HasFalse (h : StoreView) (lits : List ℕ) (key : ℕ) : Type 0 where
  pub clause : List ℕ
  pub held : Holds h key clause
  pub falsified : IsFalsified lits clause
