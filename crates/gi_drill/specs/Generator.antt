-- The generator of the drill's numbers.
use Rattle.std.specs.Prelude.{ℕ, zero, suc, ◌+◌, ◌*◌, ◌/◌, ◌%◌}

-- the state after one more draw
unfoldable pub next : ℕ → ℕ
next x = (1103515245 * x + 12345) % 2147483648

-- the state after so many draws
unfoldable pub state_after : ℕ → ℕ → ℕ
state_after zero x = x
state_after (suc n) x = next (state_after n x)

-- a number below k, by the state after its draw
unfoldable pub drawn : ℕ → ℕ → ℕ
drawn k x = (x / 65536) % k

-- the n-th draw from a state on, below k
abbrev pub draw : (n k x : ℕ) → ℕ
draw n k x = drawn k (state_after n x)
