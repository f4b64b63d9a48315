-- The lift's literals.
use Rattle.std.specs.Prelude.{◌≡◌, ℕ, ◌+◌, ◌*◌, ◌≤◌}

-- 'the lift is at that floor after so many steps': the positive literal of a variable for each time
-- and floor
abbrev pub at_floor : (steps floor : ℕ) → ℕ
at_floor steps floor = 2 * (4 * steps + floor)

-- the literal says that it is at some floor after at most so many steps
pub record IsPlace (most literal : ℕ) : Type 0 where
  pub steps : ℕ
  pub floor : ℕ
  pub in_time : steps ≤ most
  pub low : 1 ≤ floor
  pub high : floor ≤ 4
  pub is : literal ≡ at_floor steps floor
