-- The lines of a text.
use Rattle.std.specs.Prelude.{ℕ, Bool, ◌==◌, not, List, [], ◌∷◌, ◌++◌, if◌then◌else◌}
use Rattle.std.specs.List.{flat_map, list_all}

-- a byte at the front of the first line
abbrev pub with_byte : ℕ → List (List ℕ) → List (List ℕ)
with_byte b [] = (b ∷ []) ∷ []
with_byte b (l ∷ ls) = (b ∷ l) ∷ ls

-- the lines, parted by LF; the last may lack it
unfoldable pub lines_of : List ℕ → List (List ℕ)
lines_of [] = []
lines_of (b ∷ bs) = if b == 10 then [] ∷ lines_of bs else with_byte b (lines_of bs)

-- has no LF
abbrev pub is_plain : List ℕ → Bool
is_plain line = list_all (λ b. not (b == 10)) line

-- lines, each with its LF
abbrev pub text_of : List (List ℕ) → List ℕ
text_of lines = flat_map (λ line. line ++ 10 ∷ []) lines
