-- What has left a buffer for a link.
use Rattle.std.specs.Prelude.{◌≡◌, ℕ, Bool, List, ◌++◌, MatchBool}
use Rattle.gi_outside.specs.World.{World, Wrote, WroteCut}

-- bytes that wait, and whether a write has failed
pub record Waiting : Type 0 where
  pub bytes : List ℕ
  pub broken : Bool

-- all of the text was written but for what waits
pub record WroteAllBut (old new : World) (waits text : List ℕ) : Type 0 where
  pub sent : List ℕ
  pub wrote : Wrote old new sent
  pub whole : sent ++ waits ≡ text

-- since the start the text was put into the buffer
abbrev pub Stands : World → World → Waiting → List ℕ → Type 0
Stands start now waiting text =
    MatchBool waiting.broken (WroteCut start now text) (WroteAllBut start now waiting.bytes text)
