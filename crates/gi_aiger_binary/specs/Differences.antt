-- A number in groups of seven bits, lowest first; each byte but the last has its high bit set.
use Rattle.std.specs.Prelude.{ℕ, zero, suc, ◌+◌, ◌/◌, ◌%◌, nat_lt, List, [], ◌∷◌, if◌then◌else◌}

-- in one group more than this at most
unfoldable pub groups_within : ℕ → ℕ → List ℕ
groups_within zero n = n ∷ []
groups_within (suc more) n = if nat_lt n 128 then n ∷ []
    else (n % 128 + 128) ∷ groups_within more (n / 128)

-- the shortest spelling
unfoldable pub groups_of : ℕ → List ℕ
groups_of n = groups_within n n
