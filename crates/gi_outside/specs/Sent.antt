-- What a writer answers.
use Rattle.std.specs.Prelude.{ℕ, List}
use Rattle.gi_outside.specs.World.{World, Wrote, WroteCut}
use Rattle.gi_outside.specs.declared.sent.Sent.{Sent}
use Rattle.gi_outside.specs.declared.sent.Sent.TheVariants.{Done, Failed}

-- the text was written, whole; or a front of it that lacks its last byte, and a write has failed
abbrev pub Sends : Sent → World → World → List ℕ → Type 0
Sends Done old new text = Wrote old new text
Sends Failed old new text = WroteCut old new text
