-- What contracts see of a search between its slices.
use Rattle.std.specs.Prelude.{ℕ, ◌<◌, length, All}
use Rattle.gi_lit.specs.Learnt.{IsImplied}
use Rattle.gi_store.specs.StoreView.{StoreView, IsLive, problem_of, known_of}
use Rattle.gi_prop.specs.TrailView.{TrailView}
use Rattle.gi_prop.specs.Attached.{Attached, IsAttached, IsForcedAt, Goes}
use Rattle.gi_cdcl.specs.Sound.{IsUsed}

-- its attached keys, and its trail; between calls that has the root level alone: what the clauses
-- force where nothing is decided, as far as it was found
pub record Searching : Type 0 where
  pub attached : Attached
  pub root : TrailView

-- each attached key has a clause in the store, of variables that the search has room for, and such
-- a clause forced each literal of the root
pub record IsRooted (s : Searching) (h : StoreView) : Type 0 where
  pub goes : Goes s.attached h s.root
  pub forced : (k : ℕ) → k < length s.root.lits → IsForcedAt s.attached h s.root k

-- a search goes with a store
unfoldable pub MatchesStore : Searching → StoreView → Type 0
MatchesStore s h = IsRooted s h

-- exactly the store's clauses are attached
pub record HasAll (s : Searching) (h : StoreView) : Type 0 where
  pub all : (k : ℕ) → IsLive h k → IsAttached s.attached k
  pub only : (k : ℕ) → IsAttached s.attached k → IsLive h k

-- the learnt clauses are implied by the problem, of its variables and active guards alone
pub record AreKnown (h : StoreView) : Type 0 where
  pub implied : All (IsImplied (problem_of h)) (known_of h)
  pub used : All (All (IsUsed h)) (known_of h)
