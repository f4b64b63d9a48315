-- Marks on places, with the places that are marked.
use Rattle.std.specs.Prelude.{◌≡◌, ℕ, ◌≤◌, Bool, true, false, List, length, slice_index_or, Contains}
use Rattle.gi_cdcl.specs.Marks.{marked}

-- the touched places are those that are marked, each once, there is room for all, and each fits a
-- word of 32 bits
pub record IsTouched (flags : List Bool) (touched : List ℕ) (capacity : ℕ) : Type 0 where
  pub all : (k : ℕ) → slice_index_or flags k false ≡ true → Contains touched k
  pub only : (k : ℕ) → Contains touched k → slice_index_or flags k false ≡ true
  pub count : length touched ≡ marked (length flags) flags
  pub room : length flags ≤ capacity
  pub few : length flags ≤ 4294967295

-- no place is marked
abbrev pub IsBlank : List Bool → Type 0
IsBlank flags = (k : ℕ) → slice_index_or flags k false ≡ false

-- these places are marked, and no others
pub record AreMarked (flags : List Bool) (touched : List ℕ) : Type 0 where
  pub all : (k : ℕ) → slice_index_or flags k false ≡ true → Contains touched k
  pub only : (k : ℕ) → Contains touched k → slice_index_or flags k false ≡ true
