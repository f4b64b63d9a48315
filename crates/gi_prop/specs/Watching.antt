-- What propagation by watches keeps, and what its steps do.
use Rattle.std.specs.Prelude.{◌≡◌, ◌≢◌, ℕ, ◌+◌, ◌∷◌, ◌<◌, ◌≤◌, ◌⊎◌, Option, Some, None, List, length, remove, slice_index, slice_index_or, slice_set, All, Contains}
use Rattle.gi_lit.specs.Literals.{opposite}
use Rattle.gi_store.specs.StoreView.{StoreView, Holds}
use Rattle.gi_chains.specs.Lists.{Lists, items_at, StandsAt, IsApart}
use Rattle.gi_prop.specs.TrailView.{TrailView, IsTrail}
use Rattle.gi_prop.specs.Attached.{AddsForced, keys_alone, HasTwoLeft}
use Rattle.gi_prop.specs.Watched.{IsIn, IsPair, IsAside, IsKeyed}

-- each key stands at the place of its number
pub record AreNumbered (slots : List (Option ℕ)) : Type 0 where
  pub each : (i key : ℕ) → slice_index_or slots i None ≡ Some key → key ≡ i

-- the nodes in the chains are those of the attached keys, each in one list
pub record AreLinked (slots : List (Option ℕ)) (chains : Lists) : Type 0 where
  pub linked : (key : ℕ) → slice_index_or slots key None ≡ Some key
      → (list : ℕ) × IsIn chains list key
  pub attached : (key list : ℕ) → IsIn chains list key → slice_index_or slots key None ≡ Some key
  pub apart : IsApart chains

-- what a propagator keeps
pub record AreKept (slots : List (Option ℕ)) (first second : Lists) : Type 0 where
  pub numbered : AreNumbered slots
  pub first_linked : AreLinked slots first
  pub second_linked : AreLinked slots second

-- what propagation keeps, where the watches of either side are guarded in so much of the trail
pub record IsWatched (slots : List (Option ℕ)) (ours theirs : Lists) (s : StoreView) (t : TrailView)
    (our_head their_head : ℕ) : Type 0 where
  pub kept : AreKept slots ours theirs
  pub trail : IsTrail t
  pub keyed : (key : ℕ) → slice_index_or slots key None ≡ Some key
      → IsKeyed ours theirs s t our_head their_head key

-- the literal at the head of the trail is true, so this one is false
pub record IsLooking (t : TrailView) (falsified : ℕ) : Type 0 where
  pub below : t.head < length t.lits
  pub is : slice_index t.lits t.head ≡ opposite falsified
  pub literal : 2 ≤ falsified

-- forced literals were added, and no more was looked at
pub record IsAdded (slots : List (Option ℕ)) (s : StoreView) (old new : TrailView) : Type 0 where
  pub adds : AddsForced (keys_alone slots) s old new
  pub head : new.head ≡ old.head

-- no node came into a list that is no literal's
pub record LeavesAside (old new : Lists) : Type 0 where
  pub each : (list node : ℕ) → list < 3 → IsIn new list node → IsIn old list node

-- the node at place i of a list is the first of another now
abbrev pub moved : List (List ℕ) → ℕ → ℕ → ℕ → ℕ → List (List ℕ)
moved lists from i to node = let cut =
    slice_set lists from (remove (items_at lists from) i) in slice_set cut to
    (node ∷ items_at cut to)

-- the node, which stood in a list, is the first of another now; the words of the others stay
pub record IsMoved (old new : Lists) (to node : ℕ) : Type 0 where
  pub each : (from i : ℕ) → StandsAt old.lists from i node
      → new.lists ≡ moved old.lists from i to node
  pub words : (k : ℕ) → k ≢ node → slice_index new.words k ≡ slice_index old.words k
  pub apart : IsApart new

-- the nodes stand where they stood, and but for one have the words that they had
pub record KeepsLists (old new : Lists) (node : ℕ) : Type 0 where
  pub lists : new.lists ≡ old.lists
  pub words : (k : ℕ) → k ≢ node → slice_index new.words k ≡ slice_index old.words k
  pub apart : IsApart new

-- the clause has a true literal, and its others are false
pub record IsOnlyTrue (lits clause : List ℕ) : Type 0 where
  pub lit : ℕ
  pub stands : Contains clause lit
  pub true : Contains lits lit
  pub others : All (λ m. (m ≡ lit) ⊎ Contains lits (opposite m)) clause

-- so has the clause of the key
pub record IsPassed (s : StoreView) (lits : List ℕ) (key : ℕ) : Type 0 where
  pub clause : List ℕ
  pub held : Holds s key clause
  pub only : IsOnlyTrue lits clause

-- so have the clauses of a list
pub record ArePassed (chains : Lists) (s : StoreView) (lits : List ℕ) (list : ℕ) : Type 0 where
  pub each : (key : ℕ) → IsIn chains list key → IsPassed s lits key

-- the lists in which the nodes of a clause are to stand
pub data AreHome (lits clause : List ℕ) (first second : ℕ) : Type 0 where
  two : (a b : ℕ) → first ≡ a + 1 → second ≡ b + 1 → IsPair clause a b
      → ¬ Contains lits (opposite a) → ¬ Contains lits (opposite b)
      → AreHome lits clause first second
  rests : first ≡ second → IsAside clause first → ¬ HasTwoLeft lits clause
      → AreHome lits clause first second

-- there may be more nodes and lists, the lists empty, and each node is where it was, with its word
pub record HasMore (old new : Lists) : Type 0 where
  pub lists : length old.lists ≤ length new.lists
  pub kept : (list node : ℕ) → IsIn old list node → IsIn new list node
  pub others : (list node : ℕ) → IsIn new list node → IsIn old list node
  pub words : (k : ℕ) → slice_index new.words k ≡ slice_index old.words k
  pub apart : IsApart new
