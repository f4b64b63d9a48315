-- What contracts see of a store: its variables and guards, and its clauses under their keys.
use Rattle.std.specs.Prelude.{ℕ, ◌-◌, ◌/◌, ◌==◌, not, if◌then◌else◌, Option, None, List, [], ◌∷◌, ◌++◌, length, map, filter, drop, slice_get, Contains}
use Rattle.gi_lit.specs.Problem.{Problem, has, names, negatives, without, with_guard}
pub use Rattle.gi_lit.specs.Literals.{IsWithin}

-- a clause under its key
pub record Entry : Type 0 where
  pub key : ℕ
  pub lits : List ℕ

-- a group of guards and a clause under its key
pub record GroupEntry : Type 0 where
  pub key : ℕ
  pub guards : List ℕ
  pub clause : List ℕ

pub record StoreView : Type 0 where
  pub vars : ℕ  -- the variables are 1 to vars
  pub plain : List Entry
  pub groups : List GroupEntry
  pub active : List ℕ  -- guards in use, the one made active last stands last
  pub freed : List ℕ  -- guards to be used again, the one freed last stands first
  pub learnt : List Entry  -- the oldest first

-- its problem
abbrev pub problem_of : StoreView → Problem
problem_of h = record {
  vars = h.vars;
  plain = map (λ (e : Entry). e.lits) h.plain;
  groups = map (λ (q : GroupEntry). record { guards = q.guards; clause = q.clause }) h.groups;
  active = h.active;
  freed = h.freed;
}

-- its learnt clauses, the oldest first
abbrev pub known_of : StoreView → List (List ℕ)
known_of h = map (λ (e : Entry). e.lits) h.learnt

-- what is stored of a group: the clause, and the guards' negative literals behind it, in order
abbrev pub full_entry : GroupEntry → Entry
full_entry q = record { key = q.key; lits = q.clause ++ negatives q.guards }

-- all that is stored: the plain clauses, then the groups, then the learnt clauses
abbrev pub entries : StoreView → List Entry
entries h = h.plain ++ (map full_entry h.groups ++ h.learnt)

-- the keys in use, in that order
abbrev pub keys_of : StoreView → List ℕ
keys_of h = map (λ (e : Entry). e.key) (entries h)

-- the clause is stored under the key
abbrev pub Holds : StoreView → ℕ → List ℕ → Type 0
Holds h key clause = Contains (entries h) (record { key = key; lits = clause })

-- the key is in use
abbrev pub IsLive : StoreView → ℕ → Type 0
IsLive h key = Contains (keys_of h) key

-- no key that stays in use changes its clause
pub record Keeps (old new : StoreView) : Type 0 where
  pub each : (key : ℕ) (clause : List ℕ) → Holds old key clause → IsLive new key
      → Holds new key clause

-- with one clause more
abbrev pub with_plain : ℕ → List ℕ → StoreView → StoreView
with_plain key c h = record h { plain = h.plain ++ record { key = key; lits = c } ∷ [] }

abbrev pub with_under : ℕ → List ℕ → List ℕ → StoreView → StoreView
with_under key guards c h =
    record h { groups = h.groups ++ record { key = key; guards = guards; clause = c } ∷ [] }

abbrev pub with_learnt : ℕ → List ℕ → StoreView → StoreView
with_learnt key c h = record h { learnt = h.learnt ++ record { key = key; lits = c } ∷ [] }

-- with one guard more
abbrev pub with_new_guard : StoreView → StoreView
with_new_guard h = let p =
    with_guard (problem_of h) in record h { vars = p.vars; active = p.active; freed = p.freed }

-- an active guard freed: the groups that name it are gone, and the learnt clauses with its variable
abbrev pub without_guard_of : ℕ → StoreView → StoreView
without_guard_of g h = record h {
  groups = filter (λ (q : GroupEntry). not (has q.guards g)) h.groups;
  active = without g h.active;
  freed = g ∷ h.freed;
  learnt = filter (λ (e : Entry). not (names g e.lits)) h.learnt;
}

-- the older half of the learnt clauses gone
abbrev pub trimmed : StoreView → StoreView
trimmed h = record h { learnt = drop (length h.learnt / 2) h.learnt }

-- the item at a place, from 1
abbrev pub at_place : {X : Type 0} → List X → ℕ → Option X
at_place xs i = if i == 0 then None else slice_get xs (i - 1)
