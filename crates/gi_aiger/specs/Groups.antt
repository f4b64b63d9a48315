-- The differences of the binary form, in groups of seven bits, lowest first.
use Rattle.std.specs.Prelude.{ℕ, ◌+◌, ◌*◌, ◌-◌, ◌%◌, nat_lt, Bool, ◌==◌, ◌&&◌, ◌||◌, List, [], ◌∷◌, length, slice_index, Option, Some, None, option_map, Result, Ok, Err, if◌then◌else◌}
use Rattle.gi_aiger.specs.declared.fault.AigCode.{AigCode}
use Rattle.gi_aiger.specs.declared.fault.AigCode.TheVariants.{Literal, Order}

-- the groups up to the first byte whose high bit is clear, and what stands behind them
unfoldable pub groups_at : List ℕ → Option (List ℕ × List ℕ)
groups_at [] = None
groups_at (b ∷ bs) = if nat_lt b 128 then Some (b ∷ [], bs) else option_map (λ p. (b ∷ p.0, p.1)) (groups_at bs)

-- the number that groups spell
unfoldable pub value_of : List ℕ → ℕ
value_of [] = 0
value_of (b ∷ bs) = b % 128 + 128 * value_of bs

-- a shorter spelling would do
abbrev pub is_longer : List ℕ → Bool
is_longer groups = nat_lt 1 (length groups) && (slice_index groups (length groups - 1) == 0)

-- the difference, below 2 ^ 32, that groups are the shortest spelling of
abbrev pub difference_of : List ℕ → Option ℕ
difference_of groups = if is_longer groups then None else if nat_lt (value_of groups) 4294967296 then Some (value_of groups) else None

-- a gate's greater operand, by its difference from the gate
abbrev pub greater_at : ℕ → Option ℕ → Result ℕ AigCode
greater_at own None = Err Literal
greater_at own (Some d) = if (d == 0) || nat_lt own d then Err Order else Ok (own - d)

-- the other operand, by its difference from the greater one
abbrev pub lesser_at : ℕ → Option ℕ → Result ℕ AigCode
lesser_at greater None = Err Literal
lesser_at greater (Some d) = if nat_lt greater d then Err Order else Ok (greater - d)
