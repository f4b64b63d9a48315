-- What each step tells the seat that makes it.
use Rattle.std.specs.Prelude.{◌≡◌, ℕ, ◌-◌, ◌/◌, ◌^◌, ◌<◌, ◌≤◌, true, false, List, [], ◌∷◌, ◌++◌, length, Option, Some, All, Contains}
use Rattle.atomic_table.specs.Table.{Me, Step}
use Rattle.gi_turn.specs.declared.view.Entry.{Entry}
use Rattle.gi_turn.specs.declared.view.View.{View}
use Rattle.gi_turn.specs.Entries.{phase_after, StartsWith, AreGlances, glance_at}
use Rattle.gi_turn.specs.Numbers.{OwnIn}
use Rattle.gi_turn.specs.Views.{Sole, KnowsPhases, KnowsMarks, OwnSeen, IsLawful, AskedBy, HoldsAll, after_draw, after_look, with_turn, after_publish, after_ask, after_see, after_settle}

-- What a seat with the view v learns as its turn comes: the whole history with no entry of its own
-- that it had not seen, the value, which stands for it, the causes of all marks, and that its
-- glances were right.
pub record Finds {T : Type 0} (stands : T → List Entry → Type 0) (may : List Entry → ℕ → Type 0)
    (v : View) (glances : List (ℕ × ℕ)) (log : List Entry) (t : T) : Type 0 where
  pub starts : StartsWith log v.seen
  pub stands_for : stands t log
  pub own_seen : OwnSeen v log
  pub lawful : IsLawful may log
  pub named : AreGlances v.opened log glances
  pub sole : Sole v → (log ≡ v.seen) × AskedBy v log × HoldsAll v log

-- the glances of a seat that waited, looking in vain, until the whole history was log
abbrev pub glances_after : View → List (ℕ × ℕ) → List Entry → List (ℕ × ℕ)
glances_after v vain log = v.glances ++ (vain ++ (length log, phase_after v.opened log) ∷ [])

-- The seat drew one ticket, looked until the history was as long as its ticket, and then had the
-- turn, the value and all that it finds with it.
pub record HasEntered {T : Type 0} (stands : T → List Entry → Type 0)
    (may : List Entry → ℕ → Type 0) (v : View) (t : T) (w : View) : Type 0 where
  pub log : List Entry
  pub vain : List (ℕ × ℕ)
  pub early : All (λ g. g.0 < length log) vain
  pub finds : Finds stands may v (glances_after v vain log) log t
  pub view : w ≡ record v {
    left = v.left - 1;
    ticket = Some (length log);
    turn = true;
    seen = log;
    glances = glances_after v vain log;
    fresh = [];
  }

module _ {T : Type 0} where
  -- the seat has drawn the ticket r
  abbrev pub Draws : Step (Option T) → Me (Option T) View → ℕ → Me (Option T) View → Type 0
  Draws st m r m' = (m'.0 ≡ after_draw m.0 r) × (m'.1 ≡ m.1) × (r < 2 ^ 56)

  -- the seat, which waits, has read r: where the history is as long as its ticket it has the turn
  -- and the slot, else it waits on
  abbrev pub Looks : (T → List Entry → Type 0) → (List Entry → ℕ → Type 0) → Step (Option T)
      → Me (Option T) View → ℕ → Me (Option T) View → Type 0
  Looks stands may st m r m' = (k : ℕ) → m.0.ticket ≡ Some k
      → (r / 8 ≡ k → (log : List Entry) × (t : T) × (length log ≡ k)
      × Finds stands may m.0 (glances_after m.0 [] log) log t
      × (m'.0 ≡ with_turn (after_look m.0 (length log, phase_after m.0.opened log)) log)
      × (m'.1 ≡ (0, Some t) ∷ []))
      × ((r / 8 ≡ k → ⊥) → (r / 8 < k) × (m'.0 ≡ after_look m.0 (glance_at r)) × (m'.1 ≡ m.1))

  -- the seat's entry stands at the end of the history, and its turn is over
  abbrev pub Publishes : (List Entry → ℕ → Type 0) → Entry → Step (Option T) → Me (Option T) View
      → ℕ → Me (Option T) View → Type 0
  Publishes may e st m r m' = (m'.0 ≡ after_publish m.0 e) × (m'.1 ≡ []) × KnowsPhases m'.0
      × KnowsMarks may m'.0

  -- the seat, which does not wait, has read r
  abbrev pub Glances : Step (Option T) → Me (Option T) View → ℕ → Me (Option T) View → Type 0
  Glances st m r m' = (m'.0 ≡ after_look m.0 (glance_at r)) × (m'.1 ≡ m.1)
      × (length m.0.seen ≤ r / 8) × KnowsPhases m'.0

  -- the seat has asked the mark that the step was given
  abbrev pub Asks : Step (Option T) → Me (Option T) View → ℕ → Me (Option T) View → Type 0
  Asks st m r m' = (m'.0 ≡ after_ask m.0 st.first) × (m'.1 ≡ m.1)

  -- the seat has read the mark r, which is no less than any that it asked
  abbrev pub Sees : Step (Option T) → Me (Option T) View → ℕ → Me (Option T) View → Type 0
  Sees st m r m' = (m'.0 ≡ after_see m.0 r) × (m'.1 ≡ m.1)
      × ((mark l : ℕ) → Contains m.0.asked (mark, l) → mark ≤ r)

  -- the seat has no more calls than all have together, both histories that it merged begin the
  -- longer one, and beyond its own each of the two had no entry there
  abbrev pub Settles : (List Entry → ℕ → Type 0) → Step (Option T) → Me (Option T) View → ℕ
      → Me (Option T) View → Type 0
  Settles may st m r m' = (m'.0 ≡ after_settle m.0) × (m'.1 ≡ m.1) × (m.0.left ≤ 2 ^ 56)
      × KnowsPhases m'.0 × KnowsMarks may m'.0
      × ((x : List ℕ × List Entry) → Contains m.0.merged x → length x.1 ≤ length m.0.seen
      → StartsWith m.0.seen x.1 × OwnIn x.0 (length x.1) m.0.seen)

  -- the seat has no turn, and no value
  abbrev pub IsIdle : Me (Option T) View → Type 0
  IsIdle m = (m.0.turn ≡ false) × (m.1 ≡ []) × (m.0.spent ≡ false)

  -- the turn of the ticket k is the seat's
  abbrev pub IsInTurn : Me (Option T) View → ℕ → Type 0
  IsInTurn m k = (m.0.turn ≡ true) × (m.0.spent ≡ false) × (m.0.ticket ≡ Some k) × (k < 2 ^ 56)
      × (m.0.merged ≡ [])

  -- while a seat waits for the ticket k it looks, in vain
  abbrev pub OnlyLooks : ℕ → Me (Option T) View → Me (Option T) View → Type 0
  OnlyLooks k m m' = (vain : List (ℕ × ℕ)) × All (λ g. g.0 < k) vain
      × (m'.0 ≡ record m.0 { glances = m.0.glances ++ vain }) × (m'.1 ≡ m.1)

  -- a seat that had the view v has the turn of the ticket k, and the slot with the value
  abbrev pub HasTurn : (T → List Entry → Type 0) → (List Entry → ℕ → Type 0) → View → ℕ
      → Me (Option T) View → Type 0
  HasTurn stands may v k m = (log : List Entry) × (vain : List (ℕ × ℕ)) × (t : T) × (length log ≡ k)
      × All (λ g. g.0 < k) vain
      × Finds stands may v (glances_after v vain log) log t
      × (m.0 ≡ record v { turn = true; seen = log; glances = glances_after v vain log })
      × (m.1 ≡ (0, Some t) ∷ [])
