-- The lines of bytes that come in pieces, and raw bytes between them.
use Rattle.std.specs.Prelude.{◌≡◌, ℕ, ◌+◌, ◌<◌, ◌⊎◌, Bool, true, false, ◌&&◌, nat_lt, List, [], ◌∷◌, ◌++◌, length, take, drop, Option, Some, None, option_map, is_none, if◌then◌else◌, ◌==◌}

-- what a `Lines` is seen as
pub record Kept : Type 0 where
  -- the bytes that were fed and not yet given
  pub left : List ℕ
  -- whether the input has ended
  pub ended : Bool
  -- whether a line of more than `most` bytes is under way
  pub long : Bool
  -- the most bytes that a line has
  pub most : ℕ

-- the first line, without its LF, and what is behind the LF
abbrev pub line_at : List ℕ → Option (List ℕ × List ℕ)
line_at [] = None
line_at (b ∷ bs) = if b == 10 then Some ([], bs) else option_map (λ p. (b ∷ p.0, p.1)) (line_at bs)

-- from the first LF on
abbrev pub from_lf : List ℕ → List ℕ
from_lf [] = []
from_lf (b ∷ bs) = if b == 10 then b ∷ bs else from_lf bs

-- what is left once a piece was fed: it goes to the end, but for bytes of a line that is too long
unfoldable pub fed : Kept → List ℕ → List ℕ
fed old piece = if old.long && is_none (line_at old.left) then old.left ++ from_lf piece
    else old.left ++ piece

-- the first bytes are gone, and with them a line that was too long
abbrev pub without_front : ℕ → Kept → Kept
without_front n old = record old { left = drop n old.left; long = false }

-- a line is given: up to its LF, or up to the end of the input
pub record GivesLine (line : List ℕ) (old new : Kept) : Type 0 where
  pub line_is : (line_at old.left ≡ Some (line, new.left))
      ⊎ ((line_at old.left ≡ None) × (old.ended ≡ true) × (0 < length line) × (line ≡ old.left)
      × (new.left ≡ []))
  pub ended : new.ended ≡ old.ended
  pub long : new.long ≡ false
  pub most : new.most ≡ old.most

-- there is no whole line; of one that is too long a front stays, one byte longer than the limit
pub record Waits (old new : Kept) : Type 0 where
  pub none : line_at old.left ≡ None
  pub not_ended : old.ended ≡ false
  pub left : new.left ≡ take (old.most + 1) old.left
  pub ended : new.ended ≡ old.ended
  pub long : new.long ≡ nat_lt old.most (length old.left)
  pub most : new.most ≡ old.most
