-- What `read_number` answers.
use Rattle.std.specs.Prelude.{◌≡◌, ◌<◌, ◌≤◌, ℤ, Option, Some, None}
use Rattle.gi_text.specs.Numbers.{size_of}
use Rattle.gi_text.specs.declared.numbers.Number.{Number}
use Rattle.gi_text.specs.declared.numbers.Number.TheVariants.{Value, NotNumber, TooBig}

-- the answer to a word that is this number, or none
abbrev pub Reads : Number → Option ℤ → Type 0
Reads (Value z) read = (read ≡ Some z) × (size_of z ≤ 4294967295)
Reads NotNumber read = read ≡ None
Reads TooBig read = (z : ℤ) × (read ≡ Some z) × (4294967295 < size_of z)
