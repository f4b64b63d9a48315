-- What contracts see of a propagator: which keys are attached, what their clauses watch, with which
-- stores and trails it goes, and what propagation does.
use Rattle.std.specs.Prelude.{◌≡◌, ◌≢◌, ℕ, ◌+◌, ◌<◌, ◌≤◌, ◌⊎◌, Option, Some, None, List, [], ◌++◌, length, take, slice_index, slice_index_or, Contains}
use Rattle.gi_lit.specs.Literals.{opposite, IsLiteral}
use Rattle.gi_lit.specs.Closure.{Forces, IsSettled, IsFalsified}
use Rattle.gi_store.specs.StoreView.{StoreView, Holds, IsWithin}
use Rattle.gi_chains.specs.Lists.{Lists}
use Rattle.gi_prop.specs.TrailView.{TrailView}
use Rattle.gi_prop.specs.Watched.{IsIn, IsPair, IsKeyed}

pub record Attached : Type 0 where
  pub slots : List (Option ℕ)  -- each attached key, at the place of its number
  pub first : Lists  -- one node of each attached key, in the list of what its clause watches
  pub second : Lists  -- and the other

-- the key is attached
unfoldable pub IsAttached : Attached → ℕ → Type 0
IsAttached p key = slice_index_or p.slots key None ≡ Some key

-- the store has a clause under the key, of variables from 1 to n
pub record HasClause (s : StoreView) (n key : ℕ) : Type 0 where
  pub clause : List ℕ
  pub held : Holds s key clause
  pub within : IsWithin n clause

-- the propagator goes with the store and the trail: each attached key has a clause, of variables of
-- the trail, and the clause is watched
unfoldable pub Goes : Attached → StoreView → TrailView → Type 0
Goes p s t = (key : ℕ) → IsAttached p key → IsKeyed p.first p.second s t t.head t.head key

-- the clause of the key watches these two literals
pub record Watches (p : Attached) (key a b : ℕ) : Type 0 where
  pub first : IsIn p.first (a + 1) key
  pub second : IsIn p.second (b + 1) key
  pub first_literal : IsLiteral a
  pub second_literal : IsLiteral b

-- it watches two literals
pub record HasWatches (p : Attached) (key : ℕ) : Type 0 where
  pub a : ℕ
  pub b : ℕ
  pub watches : Watches p key a b

-- the key watches what it did
pub record KeepsWatches (old new : Attached) (key : ℕ) : Type 0 where
  pub kept : (a b : ℕ) → Watches old key a b → Watches new key a b
  pub others : (a b : ℕ) → Watches new key a b → Watches old key a b

-- two different literals of the clause aren't false
pub record HasTwoLeft (lits clause : List ℕ) : Type 0 where
  pub a : ℕ
  pub b : ℕ
  pub pair : IsPair clause a b
  pub a_left : ¬ Contains lits (opposite a)
  pub b_left : ¬ Contains lits (opposite b)

-- the two are different literals of the key's clause
pub record AreOfClause (s : StoreView) (key a b : ℕ) : Type 0 where
  pub clause : List ℕ
  pub held : Holds s key clause
  pub pair : IsPair clause a b

-- each attached clause with two different literals that aren't false has two watches, and a clause
-- with a false watch has a true literal
pub record AreWatched (p : Attached) (s : StoreView) (lits : List ℕ) : Type 0 where
  pub two : (key : ℕ) (clause : List ℕ) → IsAttached p key → Holds s key clause
      → HasTwoLeft lits clause → HasWatches p key
  pub true : (key a b : ℕ) (clause : List ℕ) → IsAttached p key → Holds s key clause
      → Watches p key a b → Contains lits (opposite a) ⊎ Contains lits (opposite b)
      → (l : ℕ) × Contains clause l × Contains lits l

-- no list and no node
abbrev pub no_lists : Lists
no_lists = record { lists = []; nodes = 0; words = [] }

-- keys alone, with no watches
abbrev pub keys_alone : List (Option ℕ) → Attached
keys_alone slots = record { slots = slots; first = no_lists; second = no_lists }

-- the same keys are attached
pub record HasSameKeys (old new : Attached) : Type 0 where
  pub kept : (k : ℕ) → IsAttached old k → IsAttached new k
  pub others : (k : ℕ) → IsAttached new k → IsAttached old k

-- one key more is
pub record Attaches (key : ℕ) (old new : Attached) : Type 0 where
  pub there : IsAttached new key
  pub kept : (k : ℕ) → IsAttached old k → IsAttached new k
  pub others : (k : ℕ) → IsAttached new k → (k ≡ key) ⊎ IsAttached old k

-- one key less is
pub record Detaches (key : ℕ) (old new : Attached) : Type 0 where
  pub gone : ¬ IsAttached new key
  pub kept : (k : ℕ) → k ≢ key → IsAttached old k → IsAttached new k
  pub others : (k : ℕ) → IsAttached new k → IsAttached old k

-- the literal at a place was forced: its reason is an attached key, whose clause has it, and has
-- its other literals false before it
pub record IsForcedAt (p : Attached) (s : StoreView) (t : TrailView) (place : ℕ) : Type 0 where
  pub key : ℕ
  pub reason : slice_index_or t.reasons place None ≡ Some key
  pub attached : IsAttached p key
  pub clause : List ℕ
  pub held : Holds s key clause
  pub forces : Forces clause (slice_index t.lits place) (take place t.lits)

-- the trail has forced literals more behind, and else is as it was, but for how much of it was
-- looked at
pub record AddsForced (p : Attached) (s : StoreView) (old new : TrailView) : Type 0 where
  pub vars : new.vars ≡ old.vars
  pub level_starts : new.level_starts ≡ old.level_starts
  pub qheads : new.qheads ≡ old.qheads
  pub more : List ℕ
  pub lits : new.lits ≡ old.lits ++ more
  pub why : List (Option ℕ)
  pub reasons : new.reasons ≡ old.reasons ++ why
  pub each : (k : ℕ) → length old.lits ≤ k → k < length new.lits → IsForcedAt p s new k

-- each attached clause is settled: it forces nothing more, and isn't false
pub record AreSettled (p : Attached) (s : StoreView) (lits : List ℕ) : Type 0 where
  pub each : (key : ℕ) (clause : List ℕ) → IsAttached p key → Holds s key clause
      → IsSettled lits clause

-- the key is attached, and all literals of its clause are false
pub record IsConflict (p : Attached) (s : StoreView) (lits : List ℕ) (key : ℕ) : Type 0 where
  pub attached : IsAttached p key
  pub clause : List ℕ
  pub held : Holds s key clause
  pub falsified : IsFalsified lits clause
