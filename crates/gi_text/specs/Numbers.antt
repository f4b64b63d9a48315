-- The numbers that words are.
use Rattle.std.specs.Prelude.{ℕ, zero, suc, ◌+◌, ◌*◌, ◌-◌, ℤ, pos, negsuc, ◌==◌, List, [], ◌∷◌, Option, Some, None, option_map, if◌then◌else◌}
use Rattle.std.specs.Str.{all_ascii_digits}

-- a number with more decimal digits behind it
unfoldable pub read_on : ℕ → List ℕ → ℕ
read_on n [] = n
read_on n (c ∷ cs) = read_on (10 * n + (c - 48)) cs

-- the number that one or more digits are
unfoldable pub magnitude : List ℕ → Option ℕ
magnitude [] = None
magnitude (b ∷ bs) = if all_ascii_digits (b ∷ bs) then Some (read_on 0 (b ∷ bs)) else None

-- the negative number; there is no negative zero
abbrev pub negated : Option ℕ → Option ℤ
negated None = None
negated (Some zero) = None
negated (Some (suc n)) = Some (negsuc n)

-- the number that a word is, if it is one: digits, with `-` in front of a negative number
unfoldable pub number_of : List ℕ → Option ℤ
number_of [] = None
number_of (b ∷ bs) = if b == 45 then negated (magnitude bs) else option_map pos (magnitude (b ∷ bs))

-- the magnitude of a number
abbrev pub size_of : ℤ → ℕ
size_of (pos n) = n
size_of (negsuc n) = suc n
