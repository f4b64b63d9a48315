-- The fields of a line, and the numbers that they are.
use Rattle.std.specs.Prelude.{◌≡◌, ℕ, min, ◌==◌, List, [], ◌∷◌, map, Option, Some, None, option_map, if◌then◌else◌}
use Rattle.gi_text.specs.Numbers.{magnitude}

-- a byte at the front of the first field
abbrev pub with_byte : ℕ → List (List ℕ) → List (List ℕ)
with_byte b [] = (b ∷ []) ∷ []
with_byte b (f ∷ fs) = (b ∷ f) ∷ fs

-- the fields, parted by single spaces: two in a row, or one at an end, make an empty field, which is no number
unfoldable pub fields_of : List ℕ → List (List ℕ)
fields_of [] = [] ∷ []
fields_of (b ∷ bs) = if b == 32 then [] ∷ fields_of bs else with_byte b (fields_of bs)

-- what stands in front of the first space, and behind it
unfoldable pub split_space : List ℕ → Option (List ℕ × List ℕ)
split_space [] = None
split_space (b ∷ bs) = if b == 32 then Some ([], bs) else option_map (λ p. (b ∷ p.0, p.1)) (split_space bs)

abbrev pub with_number : Option ℕ → Option (List ℕ) → Option (List ℕ)
with_number (Some n) (Some ns) = Some (n ∷ ns)
with_number (Some n) None = None
with_number None read = None

-- the numbers of fields that are all unsigned numbers
unfoldable pub numbers_at : List (List ℕ) → Option (List ℕ)
numbers_at [] = Some []
numbers_at (f ∷ fs) = with_number (magnitude f) (numbers_at fs)

-- the numbers of a line
abbrev pub numbers_of : List ℕ → Option (List ℕ)
numbers_of line = numbers_at (fields_of line)

-- no limit is above 2 ^ 32 - 1, so each greater number is kept as 2 ^ 32
abbrev pub capped : ℕ → ℕ
capped n = min n 4294967296

-- what is kept of numbers
abbrev pub Keeps : List ℕ → Option (List ℕ) → Type 0
Keeps kept read = (ns : List ℕ) × (read ≡ Some ns) × (kept ≡ map capped ns)

-- numbers with one in front, where there is one
abbrev pub own_in : Option ℕ → List ℕ → List ℕ
own_in None ns = ns
own_in (Some own) ns = own ∷ ns

abbrev pub with_own : Option ℕ → Option (List ℕ) → Option (List ℕ)
with_own own None = None
with_own own (Some ns) = Some (own_in own ns)
