-- What contracts see of a trail: its literals in the order in which they became true, and where its
-- levels begin.
use Rattle.std.specs.Prelude.{◌≡◌, ◌≢◌, ℕ, ◌/◌, ◌<◌, ◌≤◌, nat_lt, if◌then◌else◌, Bool, true, false, Option, Some, None, List, [], ◌∷◌, ◌++◌, length, take, slice_index, All, Contains}
use Rattle.gi_lit.specs.Literals.{opposite}
use Rattle.gi_lit.specs.Closure.{IsConsistent}

pub record TrailView : Type 0 where
  pub vars : ℕ  -- the variables are 1 to vars
  pub lits : List ℕ  -- the literals that are true, the oldest first
  -- beside each literal the key of the clause that forced it, none for a decision
  pub reasons : List (Option ℕ)
  pub level_starts : List ℕ  -- how long the trail was when each level began, from level 1
  pub head : ℕ  -- how much of the trail propagation has looked at
  pub qheads : List ℕ  -- how much it had looked at when each level began

-- with nothing in it
abbrev pub no_lits : ℕ → TrailView
no_lits n = record { vars = n; lits = []; reasons = []; level_starts = []; head = 0; qheads = [] }

-- the literal is true, false, or neither
abbrev pub HasValue : List ℕ → ℕ → Option Bool → Type 0
HasValue lits l (Some true) = Contains lits l
HasValue lits l (Some false) = Contains lits (opposite l)
HasValue lits l None = ¬ Contains lits l × ¬ Contains lits (opposite l)

-- a literal of the variable stands at the place
pub record StandsAt (lits : List ℕ) (v place : ℕ) : Type 0 where
  pub below : place < length lits
  pub names : slice_index lits place / 2 ≡ v

-- no literal of the variable is there
abbrev pub IsUnassigned : List ℕ → ℕ → Type 0
IsUnassigned lits v = All (λ l. l / 2 ≢ v) lits

-- the level of a place: the levels up to it began at the place or before, the others behind it
pub record IsLevelAt (level_starts : List ℕ) (place level : ℕ) : Type 0 where
  pub most : level ≤ length level_starts
  pub begun : (j : ℕ) → j < level → slice_index level_starts j ≤ place
  pub ahead : (j : ℕ) → level ≤ j → j < length level_starts → place < slice_index level_starts j

-- with a literal more
abbrev pub with_lit : ℕ → Option ℕ → TrailView → TrailView
with_lit l why t = record t { lits = t.lits ++ l ∷ []; reasons = t.reasons ++ why ∷ [] }

-- with a level more
abbrev pub with_level : TrailView → TrailView
with_level t = record t {
  level_starts = t.level_starts ++ length t.lits ∷ [];
  qheads = t.qheads ++ t.head ∷ [];
}

-- the part that was there before a level above this one began
abbrev pub cut_at : ℕ → TrailView → TrailView
cut_at level t = let n = slice_index t.level_starts level
    in record t {
      lits = take n t.lits;
      reasons = take n t.reasons;
      level_starts = take level t.level_starts;
      head = slice_index t.qheads level;
      qheads = take level t.qheads;
    }

-- the same, and all of it where the level is the present one
abbrev pub cancelled : ℕ → TrailView → TrailView
cancelled level t = if nat_lt level (length t.level_starts) then cut_at level t else t

-- each literal is of a variable from 1 to n
abbrev pub AreWithin : ℕ → List ℕ → Type 0
AreWithin n lits = All (λ l. (1 ≤ l / 2) × (l / 2 ≤ n)) lits

-- levels begin one behind the other within the trail, and at each beginning no more had been looked
-- at than was there, nor than is looked at now
pub record AreLevels (lits level_starts : List ℕ) (head : ℕ) (qheads : List ℕ) : Type 0 where
  pub aligned : length qheads ≡ length level_starts
  pub limit : length level_starts ≤ 4294967295
  pub within : (j : ℕ) → j < length level_starts → slice_index level_starts j ≤ length lits
  pub ordered : (i j : ℕ) → i ≤ j → j < length level_starts
      → slice_index level_starts i ≤ slice_index level_starts j
  pub seen : (j : ℕ) → j < length level_starts → slice_index qheads j ≤ slice_index level_starts j
  pub rising : (i j : ℕ) → i ≤ j → j < length level_starts
      → slice_index qheads i ≤ slice_index qheads j
  pub looked : (j : ℕ) → j < length level_starts → slice_index qheads j ≤ head
  pub high : head ≤ length lits

-- what is true of each trail
pub record IsTrail (t : TrailView) : Type 0 where
  pub few : t.vars ≤ 4294967295
  pub within : AreWithin t.vars t.lits
  pub room : length t.lits ≤ t.vars
  -- no variable stands twice
  pub apart : (i j : ℕ) → i < length t.lits → j < length t.lits
      → slice_index t.lits i / 2 ≡ slice_index t.lits j / 2 → i ≡ j
  pub consistent : IsConsistent t.lits
  pub reasons : length t.reasons ≡ length t.lits
  pub levels : AreLevels t.lits t.level_starts t.head t.qheads

-- a literal of the variable stands no lower than what had been looked at when any level began
pub record IsLate (t : TrailView) (v : ℕ) : Type 0 where
  pub place : ℕ
  pub stands : StandsAt t.lits v place
  pub late : All (λ h. h ≤ place) t.qheads

-- the literal at the head
pub record IsUnseen (t : TrailView) (l : ℕ) : Type 0 where
  pub below : t.head < length t.lits
  pub is : slice_index t.lits t.head ≡ l
