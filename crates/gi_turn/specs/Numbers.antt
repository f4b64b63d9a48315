-- Numbers of seats: how they come, and who holds them.
use Rattle.std.specs.Prelude.{◌≡◌, ◌≢◌, ℕ, zero, suc, ◌+◌, ◌*◌, ◌<◌, false, List, length, Contains}
use Rattle.gi_turn.specs.declared.view.Entry.{Entry}
use Rattle.gi_turn.specs.declared.view.View.{View}
use Rattle.gi_turn.specs.Entries.{At}

-- the number of the seat that the seat n splits off after it has split c times
abbrev pub child : ℕ → ℕ → ℕ
child n zero = 2 * n + 1
child n (suc c) = 2 * child n c

-- some seat holds the number
abbrev pub Held : List View → ℕ → Type 0
Held views n = (i : ℕ) × (v : View) × At views i v × Contains v.held n

-- the number is computed from a held one, p, and a count, below which the seat p has split where it
-- is not joined away
abbrev pub Origin : List View → ℕ → Type 0
Origin views n = (p : ℕ) × (c : ℕ) × (n ≡ child p c) × Held views p
    × ((i : ℕ) (v : View) → At views i v → v.spent ≡ false → v.number ≡ p → c < v.splits)

-- the entries whose numbers are among these stand within the first so many
abbrev pub OwnIn : List ℕ → ℕ → List Entry → Type 0
OwnIn held size log = (k : ℕ) (e : Entry) → At log k e → Contains held e.by → k < size

-- Seats' numbers differ, each is held by one seat, the one in the place owner n, and was split off
-- a held number. Each entry has a number that some seat holds, and that seat has seen it. Of two
-- that were just joined each had seen all its own.
pub record Numbers (log : List Entry) (owner : ℕ → ℕ) (views : List View) : Type 0 where
  pub own : (i : ℕ) (v : View) → At views i v → v.spent ≡ false → Contains v.held v.number
  pub one : (i : ℕ) (v : View) (n : ℕ) → At views i v → Contains v.held n → owner n ≡ i
  pub from : (n : ℕ) → Held views n → n ≢ 0 → Origin views n
  pub entries : (k : ℕ) (e : Entry) → At log k e
      → (i : ℕ) × (v : View) × At views i v × Contains v.held e.by × (k < length v.seen)
  pub merged : (i : ℕ) (v : View) (m : List ℕ × List Entry) → At views i v → Contains v.merged m
      → ((n : ℕ) → Contains m.0 n → Contains v.held n) × OwnIn m.0 (length m.1) log

-- the number was split off by a seat that holds a smaller number
abbrev pub Kin : List View → ℕ → Type 0
Kin views n = (i : ℕ) × (v : View) × At views i v × Contains v.kin n
    × ((m : ℕ) × Contains v.held m × (m < n))

-- The first seat has the number 0 until it is joined away, and each other number was split off by a
-- seat that holds a smaller one.
pub record Kinship (views : List View) : Type 0 where
  pub first : (v : View) → At views 0 v → v.spent ≡ false → v.number ≡ 0
  pub kin : (n : ℕ) → Held views n → n ≢ 0 → Kin views n
