-- Marks that were asked and seen.
use Rattle.std.specs.Prelude.{◌≡◌, ◌≢◌, ℕ, ◌≤◌, false, List, length, take, Contains}
use Rattle.gi_turn.specs.declared.view.Entry.{Entry}
use Rattle.gi_turn.specs.declared.view.View.{View}
use Rattle.gi_turn.specs.Entries.{At}

-- some seat has asked the mark where it had seen l entries
abbrev pub AskedAt : List View → ℕ → ℕ → Type 0
AskedAt views mark l = (i : ℕ) × (v : View) × At views i v × Contains v.asked (mark, l)

-- some seat has asked the mark
abbrev pub Asked : List View → ℕ → Type 0
Asked views mark = (l : ℕ) × AskedAt views mark l

-- What a seat has asked is not above STOP and could be asked. What it has seen, it or another has
-- asked.
pub record MarksOf (may : List Entry → ℕ → Type 0) (stop : ℕ) (log : List Entry) (views : List View)
    (v : View) : Type 0 where
  pub asked : (mark l : ℕ) → Contains v.asked (mark, l)
      → (mark ≤ stop) × (l ≤ length log) × may (take l log) mark
  pub seen : (mark : ℕ) → Contains v.marks mark → mark ≢ 0 → Asked views mark
  pub fresh : (mark : ℕ) → Contains v.fresh mark → Contains v.marks mark
  pub alive : (a : ℕ × ℕ) → Contains v.asked a → v.spent ≡ false

-- STOP was asked, and each mark of the history was asked over what came before it.
pub record Marks (may : List Entry → ℕ → Type 0) (stop : ℕ) (log : List Entry)
    (views : List View) : Type 0 where
  pub stop_asked : stop ≢ 0 → Asked views stop
  pub each : (i : ℕ) (v : View) → At views i v → MarksOf may stop log views v
  pub entries : (k : ℕ) (e : Entry) → At log k e → e.mark ≢ 0
      → (l : ℕ) × (l ≤ k) × AskedAt views e.mark l
