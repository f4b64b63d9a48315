-- Unit closure by the clauses of a problem, as a trail has it.
use Rattle.std.specs.Prelude.{◌≡◌, ℕ, ◌≤◌, ◌<◌, ◌⊎◌, Option, Some, None, List, [], ◌++◌, length, take, slice_index, slice_index_or, All, Contains}
use Rattle.gi_lit.specs.Literals.{opposite}
use Rattle.gi_lit.specs.Closure.{Forces, IsFalsified, IsClosed}
use Rattle.gi_lit.specs.Problem.{full}
use Rattle.gi_store.specs.StoreView.{StoreView, Holds, problem_of}
use Rattle.gi_prop.specs.TrailView.{TrailView}
use Rattle.gi_prop.specs.Attached.{Attached, IsAttached}
use Rattle.gi_scopes.specs.declared.clash.Clash.{Clash}
use Rattle.gi_scopes.specs.declared.clash.Clash.TheVariants.{Opposite, Clause}

-- the plain clauses and groups of a store alone, with their keys
abbrev pub base_of : StoreView → StoreView
base_of s = record {
  vars = 0;
  plain = s.plain;
  groups = s.groups;
  active = [];
  freed = [];
  learnt = [];
}

-- exactly the keys of these clauses are attached
pub record AreProblemKeys (a : Attached) (s : StoreView) : Type 0 where
  pub inside : (key : ℕ) → IsAttached a key → (c : List ℕ) × Holds s key c
  pub whole : (key : ℕ) (c : List ℕ) → Holds s key c → IsAttached a key

-- the literal at a place was forced by a clause of the problem, whose key is its reason
pub record IsImpliedAt (s : StoreView) (t : TrailView) (place : ℕ) : Type 0 where
  pub key : ℕ
  pub reason : slice_index_or t.reasons place None ≡ Some key
  pub clause : List ℕ
  pub held : Holds s key clause
  pub forces : Forces clause (slice_index t.lits place) (take place t.lits)

-- the literal at a place is an assumption that nothing forced, or was forced by a clause of the
-- problem
abbrev pub IsReached : StoreView → List ℕ → TrailView → ℕ → Type 0
IsReached s given t place =
    ((slice_index_or t.reasons place None ≡ None) × Contains given (slice_index t.lits place))
    ⊎ IsImpliedAt s t place

-- each of the first literals is
pub record AreReached (s : StoreView) (given : List ℕ) (t : TrailView) (n : ℕ) : Type 0 where
  pub each : (k : ℕ) → k < n → IsReached s given t k

-- so many literals are the unit closure under the assumptions: each was reached, all assumptions
-- are there, and no clause forces more
pub record AreClosed (s : StoreView) (given : List ℕ) (t : TrailView) (n : ℕ) : Type 0 where
  pub reached : AreReached s given t n
  pub whole : All (Contains (take n t.lits)) given
  pub closed : IsClosed (full (problem_of s)) (take n t.lits)

-- such of these literals are added as weren't there
pub record Adds (given : List ℕ) (old new : TrailView) : Type 0 where
  pub vars : new.vars ≡ old.vars
  pub level_starts : new.level_starts ≡ old.level_starts
  pub more : List ℕ
  pub lits : new.lits ≡ old.lits ++ more
  pub why : List (Option ℕ)
  pub reasons : new.reasons ≡ old.reasons ++ why
  pub inside : All (Contains given) more
  pub unforced : (k : ℕ) → slice_index_or why k None ≡ None

-- more literals stand behind the others, each forced by a clause of the problem
pub record AddsImplied (s : StoreView) (old new : TrailView) : Type 0 where
  pub vars : new.vars ≡ old.vars
  pub level_starts : new.level_starts ≡ old.level_starts
  pub more : List ℕ
  pub lits : new.lits ≡ old.lits ++ more
  pub why : List (Option ℕ)
  pub reasons : new.reasons ≡ old.reasons ++ why
  pub each : (k : ℕ) → length old.lits ≤ k → k < length new.lits → IsImpliedAt s new k

-- the key is of a clause of the problem that is false
pub record IsFalseKey (s : StoreView) (lits : List ℕ) (key : ℕ) : Type 0 where
  pub clause : List ℕ
  pub held : Holds s key clause
  pub stands : Contains (full (problem_of s)) clause
  pub falsified : IsFalsified lits clause

-- an assumption is false, or a clause of the problem is
abbrev pub IsClash : StoreView → List ℕ → List ℕ → Clash → Type 0
IsClash s given lits (Opposite l) = Contains given l × Contains lits (opposite l)
IsClash s given lits (Clause key) = IsFalseKey s lits key
