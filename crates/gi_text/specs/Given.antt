-- What `next_line`, `look` and `take_raw` answer.
use Rattle.std.specs.Prelude.{◌≡◌, ℕ, ◌+◌, ◌<◌, ◌≤◌, ◌⊎◌, true, false, List, [], length, take, drop, Some, None}
use Rattle.gi_text.specs.Lines.{Kept, GivesLine, Waits, line_at, without_front}
use Rattle.gi_text.specs.declared.lines.Look.{Look}
use Rattle.gi_text.specs.declared.lines.Look.TheVariants as look
use Rattle.gi_text.specs.declared.lines.Next.{Next}
use Rattle.gi_text.specs.declared.lines.Next.TheVariants.{Line, Long, More, Done, NoMemory}
use Rattle.gi_text.specs.declared.lines.Raw.{Raw}
use Rattle.gi_text.specs.declared.lines.Raw.TheVariants as raw

-- a line is there that is not too long
pub record HasLine (held : Kept) : Type 0 where
  pub line : List ℕ
  pub behind : Kept
  pub fits : length line ≤ held.most
  pub gives : GivesLine line held behind

-- the next line; memory may be wanting where there is one to copy
abbrev pub Gives : Next → Kept → Kept → Type 0
Gives (Line line) old new = (length line ≤ old.most) × GivesLine line old new
Gives Long old new = (line : List ℕ) × (old.most < length line) × GivesLine line old new
Gives More old new = Waits old new
Gives Done old new = (old.left ≡ []) × (old.ended ≡ true) × (new ≡ old)
Gives NoMemory old new = HasLine old × (new ≡ old)

-- the first n bytes as a line, with which the first `size` bytes go
abbrev pub GivesFront : Next → ℕ → ℕ → Kept → Kept → Type 0
GivesFront (Line line) n size old new = (n ≤ old.most) × (line ≡ take n old.left)
    × (new ≡ without_front size old)
GivesFront Long n size old new = (old.most < n) × (new ≡ without_front size old)
GivesFront More n size old new = ⊥
GivesFront Done n size old new = ⊥
GivesFront NoMemory n size old new = (n ≤ old.most) × (new ≡ old)

-- the first n bytes are a whole line
pub record IsLine (n : ℕ) (held : Kept) : Type 0 where
  pub there : n ≤ length held.left
  pub ends : ((n < length held.left)
      × (line_at held.left ≡ Some (take n held.left, drop (n + 1) held.left)))
      ⊎ ((line_at held.left ≡ None) × (held.ended ≡ true) × (0 < n) × (n ≡ length held.left))

-- what stands in front: a line is left there, and one that is too long is let go
abbrev pub Looks : Look → Kept → Kept → Type 0
Looks (look.Line n) old new = (n ≤ old.most) × IsLine n old × (new ≡ old)
Looks look.Long old new = (line : List ℕ) × (old.most < length line) × GivesLine line old new
Looks look.More old new = Waits old new
Looks look.Done old new = (old.left ≡ []) × (old.ended ≡ true) × (new ≡ old)

-- the next n bytes; memory may be wanting where they are there
abbrev pub GivesRaw : Raw → ℕ → Kept → Kept → Type 0
GivesRaw (raw.Bytes bytes) n old new = (n ≤ length old.left) × (bytes ≡ take n old.left)
    × (new ≡ without_front n old)
GivesRaw raw.More n old new = (length old.left < n) × (old.ended ≡ false) × (new ≡ old)
GivesRaw raw.Cut n old new = (length old.left < n) × (old.ended ≡ true)
    × (new ≡ record old { left = [] })
GivesRaw raw.NoMemory n old new = (n ≤ length old.left) × (new ≡ old)
