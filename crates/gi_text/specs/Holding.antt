-- What the fields of a `Lines` keep.
use Rattle.std.specs.Prelude.{◌≡◌, ◌≢◌, ℕ, ◌≤◌, ◌<◌, Bool, ◌&&◌, List, length, is_none, slice_index}
use Rattle.gi_text.specs.Lines.{line_at}

pub record IsHeld (left : List ℕ) (looked : ℕ) (long dropping : Bool) : Type 0 where
  pub within : looked ≤ length left
  -- none of the bytes that were looked at is LF
  pub before : (k : ℕ) → k < looked → slice_index left k ≢ 10
  pub drops : dropping ≡ (long && is_none (line_at left))
