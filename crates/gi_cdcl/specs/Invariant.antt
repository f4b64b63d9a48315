-- What a search knows between two steps of a slice.
use Rattle.std.specs.Prelude.{◌≡◌, ℕ, ◌≤◌, List, take, All, Contains}
use Rattle.gi_lit.specs.Learnt.{AreFresh}
use Rattle.gi_store.specs.StoreView.{StoreView, IsLive, IsWithin, problem_of, known_of, with_learnt}
use Rattle.gi_prop.specs.TrailView.{TrailView}
use Rattle.gi_prop.specs.Attached.{Attached, IsAttached, Goes}
use Rattle.gi_cdcl.specs.Sound.{IsTrailSound, IsLeveled}
use Rattle.gi_cdcl.specs.Values.{IsPassed}
use Rattle.gi_cdcl.specs.Assumed.{DecidesAssumptionsFirst}
use Rattle.gi_cdcl.specs.Ends.{Learns}
use Rattle.gi_cdcl.specs.Searching.{AreKnown}

-- exactly the clauses of the store are attached
pub record AreAttached (p : Attached) (h : StoreView) (t : TrailView) : Type 0 where
  pub goes : Goes p h t
  pub all : (k : ℕ) → IsLive h k → IsAttached p k
  pub only : (k : ℕ) → IsAttached p k → IsLive h k

-- and the trail has room for the store's variables
pub record AttachedExactly (p : Attached) (h : StoreView) (t : TrailView) : Type 0 where
  pub attached : AreAttached p h t
  pub room : h.vars ≤ t.vars

-- each literal was decided or forced, and nothing was left to propagate when each level began
pub record IsReady (h : StoreView) (t : TrailView) : Type 0 where
  pub sound : IsTrailSound h t
  pub leveled : IsLeveled h t

-- so many variables, as far as they are in use, have a value, and so many assumptions are true
pub record HasPassed (h : StoreView) (t : TrailView) (assumed : List ℕ) (vars lits : ℕ) : Type
    0 where
  pub vars_are : IsPassed h t.lits vars
  pub lits_are : All (Contains t.lits) (take lits assumed)

-- all that is known when a step begins
pub record SearchInvariant (p : Attached) (h : StoreView) (t : TrailView) (assumed : List ℕ)
    (vars lits : ℕ) : Type 0 where
  pub known : AreKnown h
  pub tied : AttachedExactly p h t
  pub ready : IsReady h t
  pub led : DecidesAssumptionsFirst assumed t
  pub within : IsWithin h.vars assumed
  pub passed : HasPassed h t assumed vars lits

-- the news since the slice began stand in the store, and are fresh
pub record HasLearnt (old now : StoreView) (news : List (List ℕ)) : Type 0 where
  pub learns : Learns old now news
  pub fresh : AreFresh (problem_of old) (known_of old) news

-- a learnt clause more is stored, under some key
abbrev pub HasStored : StoreView → StoreView → List ℕ → Type 0
HasStored old new clause = (key : ℕ) × (new ≡ with_learnt key clause old)
