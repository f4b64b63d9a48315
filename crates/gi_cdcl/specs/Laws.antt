-- Laws over the definitions.
use Rattle.std.specs.Prelude.{ℕ, ◌^◌, ◌≤◌, List, length, take, All}
use Rattle.gi_lit.specs.Closure.{IsFalsified, IsClosed}
use Rattle.gi_lit.specs.Problem.{Problem, IsWellFormed}
use Rattle.gi_lit.specs.Learnt.{IsImplied, IsFresh, IsDerived, AreFresh}
use Rattle.gi_store.specs.StoreView.{StoreView, Holds, IsLive, Keeps, problem_of, known_of}
use Rattle.gi_prop.specs.TrailView.{TrailView, IsTrail}
use Rattle.gi_prop.specs.Attached.{IsAttached}
use Rattle.gi_cdcl.specs.Sound.{stored, IsUsed}
use Rattle.gi_cdcl.specs.Uip.{IsUip}
use Rattle.gi_cdcl.specs.Ends.{Learns}
use Rattle.gi_cdcl.specs.Searching.{Searching, MatchesStore, AreKnown}

-- clauses none of which holds an earlier one are few
abbrev pub NewsAreFew : Type 0
NewsAreFew = (p : Problem) (known news : List (List ℕ)) → IsWellFormed p → AreFresh p known news
    → length news ≤ 3 ^ p.vars

-- what a conflict teaches is fresh and derived
abbrev pub LearntClausesAreFresh : Type 0
LearntClausesAreFresh = (h : StoreView) (t : TrailView) (key : ℕ) (conflict : List ℕ) (start : ℕ)
    (clause : List ℕ) → All (IsImplied (problem_of h)) (known_of h)
    → All (All (IsUsed h)) (stored h) → IsTrail t
    → IsClosed (stored h) (take start t.lits) → Holds h key conflict → IsFalsified t.lits conflict
    → IsUip h t conflict start clause
    → IsFresh (problem_of h) (known_of h) clause × IsDerived (problem_of h) (known_of h) clause

-- the news of a slice may stand in the store when the next slice begins
abbrev pub LearntClausesStayKnown : Type 0
LearntClausesStayKnown = (old new : StoreView) (news : List (List ℕ)) → Learns old new news
    → AreFresh (problem_of old) (known_of old) news → AreKnown old → AreKnown new

-- a search goes with the store after an edit that changes no clause of a key in use, where each
-- attached key is in use still
abbrev pub EditsKeepSearches : Type 0
EditsKeepSearches = (s : Searching) (old new : StoreView) → MatchesStore s old → Keeps old new
    → ((k : ℕ) → IsAttached s.attached k → IsLive new k) → MatchesStore s new
