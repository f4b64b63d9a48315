-- The line of each connection that was served.
use Rattle.std.specs.Prelude.{ℕ, ◌+◌, List, [], ◌∷◌, ◌++◌, codes, decimal}
use Rattle.gi_net.specs.declared.how.How.{How}
use Rattle.gi_net.specs.declared.how.How.TheVariants as how

-- how a session ended, in a word
abbrev pub how_word : How → List ℕ
how_word how.Bye = codes "bye"
how_word how.Eof = codes "eof"
how_word how.NoMemory = codes "nomem"
how_word how.Dead = codes "dead"
how_word how.ReadFault = codes "read"
how_word how.WriteFault = codes "write"
how_word how.TooMuch = codes "much"

-- the line `closed K HOW`
unfoldable pub closed_line : ℕ → How → List ℕ
closed_line number by = (((codes "closed " ++ decimal number) ++ 32 ∷ []) ++ how_word by) ++ 10 ∷ []

-- the lines of connections from this number on
unfoldable pub closed_lines : ℕ → List How → List ℕ
closed_lines number [] = []
closed_lines number (by ∷ ends) = closed_line number by ++ closed_lines (number + 1) ends
