-- Laws over what contracts see.
use Rattle.std.specs.Prelude.{ℕ, List, Contains}
use Rattle.gi_lit.specs.Closure.{IsDerivation}
use Rattle.gi_store.specs.StoreView.{StoreView, Holds, IsLive, Keeps}
use Rattle.gi_prop.specs.TrailView.{TrailView}
use Rattle.gi_prop.specs.Attached.{Attached, IsAttached, HasClause, Goes, AddsForced}
use Rattle.gi_prop.specs.Watched.{IsKeyed}

-- an edit of the store after which each attached key is in use
abbrev pub EditsKeepGoes : Type 0
EditsKeepGoes = (p : Attached) (old new : StoreView) (t : TrailView) → Goes p old t → Keeps old new
    → ((k : ℕ) → IsAttached p k → IsLive new k) → Goes p new t

-- each attached key has a clause
abbrev pub AttachedClausesAreHeld : Type 0
AttachedClausesAreHeld = (p : Attached) (s : StoreView) (t : TrailView) → Goes p s t → (k : ℕ)
    → IsAttached p k → HasClause s t.vars k

-- the nodes of each attached key are placed: in the lists of two different literals of its clause,
-- each guarded in the part of the trail that was looked at, or in a list that is no literal's
abbrev pub AttachedClausesAreWatched : Type 0
AttachedClausesAreWatched = (p : Attached) (s : StoreView) (t : TrailView) → Goes p s t → (k : ℕ)
    → IsAttached p k → IsKeyed p.first p.second s t t.head t.head k

-- what propagation adds, behind what was there, is a derivation from the attached clauses
abbrev pub AddedLiteralsAreDerived : Type 0
AddedLiteralsAreDerived =
    (p : Attached) (s : StoreView) (old new : TrailView) (clauses : List (List ℕ))
    → AddsForced p s old new → ((k : ℕ) (clause : List ℕ) → IsAttached p k → Holds s k clause
    → Contains clauses clause) → IsDerivation clauses old.lits new.lits
