-- The lines of a text.
use Rattle.std.specs.Prelude.{◌≡◌, ℕ, Bool, true, ◌==◌, ◌⊎◌, not, List, [], ◌∷◌, ◌++◌, if◌then◌else◌}
use Rattle.std.specs.List.{flat_map, list_all, AllByRecursion}
use Rattle.gi_aiger.specs.Fields.{with_byte}

-- the lines, each with its LF; the last may lack it
unfoldable pub lines_of : List ℕ → List (List ℕ)
lines_of [] = []
lines_of (b ∷ bs) = if b == 10 then (10 ∷ []) ∷ lines_of bs else with_byte b (lines_of bs)

-- a line without its LF
unfoldable pub bare : List ℕ → List ℕ
bare [] = []
bare (b ∷ bs) = if b == 10 then [] else b ∷ bare bs

-- lines, one behind the other
abbrev pub joined : List (List ℕ) → List ℕ
joined lines = flat_map (λ line. line) lines

-- has no LF
abbrev pub is_plain : List ℕ → Bool
is_plain line = list_all (λ b. not (b == 10)) line

-- lines, each with its LF
abbrev pub text_of : List (List ℕ) → List ℕ
text_of lines = flat_map (λ line. line ++ 10 ∷ []) lines

abbrev pub ArePlain : List (List ℕ) → Type 0
ArePlain lines = AllByRecursion (λ line. is_plain line ≡ true) lines

-- these lines, of which the last may lack its LF
abbrev pub IsText : List (List ℕ) → List ℕ → Type 0
IsText lines bytes = (bytes ≡ text_of lines) ⊎ (bytes ++ 10 ∷ [] ≡ text_of lines)
