-- Lists of literals as text.
use Rattle.std.specs.Prelude.{ℕ, List, [], ◌∷◌, ◌++◌}
use Rattle.std.specs.List.{flat_map}
use Rattle.std.specs.Fmt.{signed_decimal}
use Rattle.gi_lit.specs.Literals.{number_of}

-- a literal's number, and a space
abbrev pub literal_text : ℕ → List ℕ
literal_text l = signed_decimal (number_of l) ++ 32 ∷ []

-- each number with a space behind it, and then 0
abbrev pub list_text : List ℕ → List ℕ
list_text ls = flat_map literal_text ls ++ 48 ∷ []
