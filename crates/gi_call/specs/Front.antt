-- What stands in front of a server's lines.
use Rattle.std.specs.Prelude.{◌≡◌, ℕ, ◌<◌, true, false, [], length, None}
use Rattle.gi_text.specs.Given.{IsLine}
use Rattle.gi_text.specs.Lines.{Kept, line_at}
use Rattle.gi_call.specs.declared.front.Front.{Front}
use Rattle.gi_call.specs.declared.front.Front.TheVariants as front
use Rattle.gi_call.specs.Exchanged.{first_line, most_answer}

-- a line of so many bytes, its LF not counted, or one that is too long, or nothing
abbrev pub Fronts : Front → Kept → Kept → Type 0
Fronts (front.Line n) old new = IsLine n old × (new ≡ old)
Fronts front.Long old new = most_answer < length (first_line old.left)
Fronts front.More old new = (line_at old.left ≡ None) × (old.ended ≡ false) × (new ≡ old)
Fronts front.Done old new = (old.left ≡ []) × (old.ended ≡ true) × (new ≡ old)

-- what is kept of the lines: how many bytes are left, none of a line that is too long
pub record HoldsLines (lines : Kept) (held : ℕ) : Type 0 where
  pub most : lines.most ≡ most_answer
  pub short : lines.long ≡ false
  pub held_is : held ≡ length lines.left
