-- The Luby sequence, by which slices of work are long or short.
use Rattle.std.specs.Prelude.{◌≡◌, ℕ, ◌+◌, ◌-◌, ◌^◌, ◌<◌, ◌≤◌}

-- 1 1 2 1 1 2 4 ..: at place 2^(k + 1) - 1, from 1, stands 2^k, and from place 2^k on, up to there,
-- the sequence begins again
pub data IsLuby : ℕ → ℕ → Type 0 where
  peak : (k place n : ℕ) → place + 1 ≡ 2 ^ (k + 1) → n ≡ 2 ^ k → IsLuby place n
  again : (k place n : ℕ) → 2 ^ k ≤ place → place + 1 < 2 ^ (k + 1) → IsLuby (place + 1 - 2 ^ k) n
      → IsLuby place n
