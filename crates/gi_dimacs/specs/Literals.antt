-- The spelling of literals.
use Rattle.std.specs.Prelude.{ℕ, ◌/◌, ◌%◌, List, ◌∷◌, ◌==◌, if◌then◌else◌, decimal}

-- the shortest spelling of a literal
unfoldable pub literal_text : ℕ → List ℕ
literal_text l = if l % 2 == 0 then decimal (l / 2) else 45 ∷ decimal (l / 2)
