-- The limit on what a file has.
use Rattle.std.specs.Prelude.{ℕ}

-- the greatest number of a header, and the greatest sum of justice sizes; so the greatest variable, and the most lines of a section
abbrev pub most_items : ℕ
most_items = 1048576
