-- One history, tickets, and where the value is.
use Rattle.std.specs.Prelude.{◌≡◌, ℕ, ◌<◌, ◌≤◌, true, false, List, length, Option, Some, None, Contains}
use mathlib.Core.Option.{Option as Place, none, some}
use Rattle.gi_turn.specs.declared.view.Entry.{Entry}
use Rattle.gi_turn.specs.declared.view.View.{View}
use Rattle.gi_turn.specs.Entries.{At, phase_after, StartsWith, AreGlances}

-- a seat that is not joined away has seen the whole history
abbrev pub IsSeenWhole : List Entry → List View → Type 0
IsSeenWhole log views = (i : ℕ) × (v : View) × At views i v × (v.spent ≡ false) × (v.seen ≡ log)

module _ {T : Type 0} where
  -- while the value is in the slot it stands for the history
  abbrev pub Home : (T → List Entry → Type 0) → List Entry → Place (Option T) → Type 0
  Home stands log none = Unit {0}
  Home stands log (some (Some t)) = stands t log
  Home stands log (some None) = ⊥

  -- The seat in the place i: its history begins the one history, its ticket is its own, is drawn
  -- and is not used up, its turn comes with its ticket, and its glances are right.
  pub record Fits (first ticket : ℕ) (log : List Entry) (holder : ℕ → ℕ) (slot : Place (Option T))
      (i : ℕ) (v : View) : Type 0 where
    pub opened : v.spent ≡ false → v.opened ≡ first
    pub seen : StartsWith log v.seen
    pub low : (k : ℕ) → v.ticket ≡ Some k → length log ≤ k
    pub high : (k : ℕ) → v.ticket ≡ Some k → k < ticket
    pub own : (k : ℕ) → v.ticket ≡ Some k → holder k ≡ i
    pub turn : v.turn ≡ true → (slot ≡ none) × (v.ticket ≡ Some (length log)) × (v.seen ≡ log)
    pub glances : AreGlances first log v.glances
    pub merged : (m : List ℕ × List Entry) → Contains v.merged m → StartsWith log m.1

  -- Each ticket that is drawn and not used up is that of the seat in the place holder k. The value
  -- is out of the slot only with the seat whose turn it is.
  pub record Turns (stands : T → List Entry → Type 0) (first ticket : ℕ) (log : List Entry)
      (holder : ℕ → ℕ) (slot : Place (Option T)) (views : List View) : Type 0 where
    pub small : phase_after first log < 8
    pub within : length log ≤ ticket
    pub home : Home stands log slot
    pub gone : slot ≡ none → (v : View) × At views (holder (length log)) v × (v.turn ≡ true)
    pub each : (i : ℕ) (v : View) → At views i v → Fits first ticket log holder slot i v
    pub drawn : (k : ℕ) → length log ≤ k → k < ticket
        → (v : View) × At views (holder k) v × (v.ticket ≡ Some k)
    pub whole : IsSeenWhole log views
