-- How long lines are.
use Rattle.std.specs.Prelude.{ℕ}

-- the most bytes of a line, its LF not counted
abbrev pub most_line : ℕ
most_line = 1048576

-- the most bytes of lines that are joined, their LFs not counted
abbrev pub most_joined : ℕ
most_joined = 67108864

-- the greatest numbers of 32 and of 64 bits
abbrev pub most_u32 : ℕ
most_u32 = 4294967295

abbrev pub most_u64 : ℕ
most_u64 = 18446744073709551615
