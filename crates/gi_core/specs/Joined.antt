-- A search and the store that it goes with.
use Rattle.std.specs.Prelude.{ℕ, ◌-◌, ◌/◌, ◌<◌, ◌≤◌, not, List, ◌++◌, length, map, take, drop, filter, slice_index, Contains, ◌↔◌}
use Rattle.gi_lit.specs.Lists.{IsDistinct}
use Rattle.gi_lit.specs.Problem.{names}
use Rattle.gi_store.specs.StoreView.{Entry, StoreView}
use Rattle.gi_prop.specs.Attached.{IsAttached}
use Rattle.gi_cdcl.specs.Searching.{Searching, MatchesStore, HasAll}

-- exactly the store's clauses are attached
pub record IsJoined (s : Searching) (store : StoreView) : Type 0 where
  pub goes : MatchesStore s store
  pub all : HasAll s store

-- exactly these keys are attached
pub record AreAttached (s : Searching) (keys : List ℕ) : Type 0 where
  pub each : (k : ℕ) → IsAttached s.attached k ↔ Contains keys k

-- the keys of entries
abbrev pub keys : List Entry → List ℕ
keys es = map (λ (e : Entry). e.key) es

-- exactly these entries' keys are attached, and no key stands twice
pub record HasKeys (s : Searching) (es : List Entry) : Type 0 where
  pub attached : AreAttached s (keys es)
  pub distinct : IsDistinct (keys es)

-- of the old search these entries are left, and it still goes with each store that it went with
pub record IsLeft (old now : Searching) (es : List Entry) : Type 0 where
  pub keys : HasKeys now es
  pub goes : (h : StoreView) → MatchesStore old h → MatchesStore now h

-- what is left once the entries from a place on were looked at: those that don't name the guard
abbrev pub looked_at : ℕ → List Entry → ℕ → List Entry
looked_at g es i = take i es ++ filter (λ (e : Entry). not (names g e.lits)) (drop i es)

-- the last literal of the clause is of an active guard
abbrev pub EndsActive : List ℕ → List ℕ → Type 0
EndsActive active c = (0 < length c) × Contains active (slice_index c (length c - 1) / 2)

-- no literal of an active guard stands before another's
pub record AreGuardsLast (active c : List ℕ) : Type 0 where
  pub before : (j k : ℕ) → j ≤ k → k < length c → ¬ Contains active (slice_index c k / 2)
      → ¬ Contains active (slice_index c j / 2)
