-- Where the two nodes of an attached clause stand, and what is true of its watches. List l + 1 is
-- that of the literal l; list 0 is that of the clauses that wait, list 1 that of the clauses of one
-- literal, and list 2 that of the empty ones.
use Rattle.std.specs.Prelude.{◌≡◌, ◌≢◌, ℕ, ◌+◌, ◌<◌, ◌≤◌, List, [], length, slice_index, All, Contains}
use Rattle.gi_lit.specs.Literals.{opposite, IsLiteral}
use Rattle.gi_store.specs.StoreView.{StoreView, Holds, IsWithin}
use Rattle.gi_chains.specs.Lists.{Lists, StandsAt}
use Rattle.gi_prop.specs.TrailView.{TrailView}

-- a literal of the clause is true, and each level at whose beginning the place had been looked at
-- keeps it
pub record HasTrueWith (t : TrailView) (clause : List ℕ) (place : ℕ) : Type 0 where
  pub at : ℕ
  pub below : at < length t.lits
  pub stands : Contains clause (slice_index t.lits at)
  pub stays : (j : ℕ) → j < length t.level_starts → place < slice_index t.qheads j
      → at < slice_index t.level_starts j

-- where the watch became false among the first literals of the trail, so many, the clause has a
-- true literal that stays as long
pub record IsGuarded (t : TrailView) (head : ℕ) (clause : List ℕ) (watch : ℕ) : Type 0 where
  pub each : (place : ℕ) → place < head → place < length t.lits
      → slice_index t.lits place ≡ opposite watch → HasTrueWith t clause place

-- the node stands in the list
pub record IsIn (chains : Lists) (list node : ℕ) : Type 0 where
  pub place : ℕ
  pub stands : StandsAt chains.lists list place node

-- two different literals of the clause
pub record IsPair (clause : List ℕ) (a b : ℕ) : Type 0 where
  pub first : Contains clause a
  pub second : Contains clause b
  pub differ : a ≢ b

-- which clauses stand in a list that is no literal's
pub data IsAside (clause : List ℕ) (list : ℕ) : Type 0 where
  waits : list ≡ 0 → (a b : ℕ) → IsPair clause a b → IsAside clause list
  single : list ≡ 1 → (a : ℕ) → Contains clause a → All (λ m. m ≡ a) clause → IsAside clause list
  empty : list ≡ 2 → clause ≡ [] → IsAside clause list

-- a word that is no literal's, or a literal of the clause
pub record IsBlocker (clause : List ℕ) (word : ℕ) : Type 0 where
  pub each : 2 ≤ word → Contains clause word

-- the nodes stand in the lists of two different literals of the clause, its watches, each of them
-- guarded; or in a list that is no literal's
pub data IsPlaced (ours theirs : Lists) (t : TrailView) (our_head their_head key : ℕ)
    (clause : List ℕ) : Type 0 where
  watched : (a b : ℕ) → IsIn ours (a + 1) key → IsIn theirs (b + 1) key → IsPair clause a b
      → IsGuarded t our_head clause a → IsGuarded t their_head clause b
      → IsPlaced ours theirs t our_head their_head key clause
  aside : (list : ℕ) → IsIn ours list key → IsIn theirs list key → IsAside clause list
      → IsPlaced ours theirs t our_head their_head key clause

-- the key has a clause of variables of the trail, each literal of it has its lists, its nodes are
-- placed, and their words are blockers
pub record IsKeyed (ours theirs : Lists) (s : StoreView) (t : TrailView)
    (our_head their_head key : ℕ) : Type 0 where
  pub clause : List ℕ
  pub held : Holds s key clause
  pub within : IsWithin t.vars clause
  pub literals : All IsLiteral clause
  pub our_lists : All (λ l. l + 1 < length ours.lists) clause
  pub their_lists : All (λ l. l + 1 < length theirs.lists) clause
  pub our_blocker : IsBlocker clause (slice_index ours.words key)
  pub their_blocker : IsBlocker clause (slice_index theirs.words key)
  pub placed : IsPlaced ours theirs t our_head their_head key clause
