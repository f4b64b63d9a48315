-- The literals of variables in order.
use Rattle.std.specs.Prelude.{ℕ, zero, suc, ◌+◌, ◌*◌, List, [], ◌∷◌, ◌++◌}

-- the literals of so many variables from the first on
unfoldable pub evens : ℕ → List ℕ
evens zero = []
evens (suc n) = evens n ++ 2 * (n + 1) ∷ []
