-- How a trail lies in memory: beside its literals the reasons, and for each variable its value and
-- its place.
use Rattle.std.specs.Prelude.{◌≡◌, ℕ, ◌+◌, ◌-◌, ◌/◌, ◌%◌, ◌<◌, ◌≤◌, ◌==◌, Bool, Option, Some, None, List, length, slice_index, slice_index_or}
use Rattle.std.specs.List.{count_by}
use Rattle.std.specs.Option.{is_none}
use Rattle.gi_prop.specs.TrailView.{AreLevels}

-- the place of each variable's literal in the trail
pub record IsIndexed (positions : List (Option ℕ)) (lits : List ℕ) : Type 0 where
  pub at : (k : ℕ) → k < length lits
      → slice_index_or positions (slice_index lits k / 2 - 1) None ≡ Some k
  pub back : (v p : ℕ) → slice_index_or positions v None ≡ Some p
      → (p < length lits) × (slice_index lits p / 2 ≡ v + 1)
  pub count : length lits + count_by is_none positions ≡ length positions

-- whether the literal at a place is positive
abbrev pub value_at : List ℕ → Option ℕ → Option Bool
value_at lits None = None
value_at lits (Some p) = Some (slice_index lits p % 2 == 0)

-- the value of each variable
pub record AreValues (positions : List (Option ℕ)) (lits : List ℕ)
    (values : List (Option Bool)) : Type 0 where
  pub count : length values ≡ length positions
  pub each : (v : ℕ) → slice_index_or values v None
      ≡ value_at lits (slice_index_or positions v None)

-- what is looked up by variable
pub record IsTable (positions : List (Option ℕ)) (lits : List ℕ)
    (values : List (Option Bool)) : Type 0 where
  pub indexed : IsIndexed positions lits
  pub valued : AreValues positions lits values

-- all that a trail keeps, where a place fits its word, with how many literals and reasons there is
-- room for
pub record IsLaid (positions : List (Option ℕ)) (values : List (Option Bool)) (lits : List ℕ)
    (reasons : List (Option ℕ)) (level_starts : List ℕ) (head : ℕ) (qheads : List ℕ)
    (room reason_room : ℕ) : Type 0 where
  pub table : IsTable positions lits values
  pub few : length positions < 4294967296
  pub aligned : length reasons ≡ length lits
  pub begun : AreLevels lits level_starts head qheads
  pub lits_fit : length positions ≤ room
  pub reasons_fit : length positions ≤ reason_room
