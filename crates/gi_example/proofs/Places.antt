-- The places of the lift's literals.
use Rattle.std.proofs.Common.{◌≡◌, ◌≢◌, ℕ, ◌+◌, ◌-◌, ◌*◌, ◌/◌, ◌%◌, ◌≤◌, ◌<◌, arith}
use Rattle.gi_example.specs.Lift.{IsPlace, at_floor}

-- a positive literal up to the last time is a place
pub place_of : (most literal : ℕ) → 2 ≤ literal → literal % 2 ≢ 1 → literal / 2 ≤ (most + 1) * 4 → IsPlace most literal
place_of most literal low even high = record {
  steps = (literal / 2 - 1) / 4;
  floor = (literal / 2 - 1) % 4 + 1;
  in_time = omega arith;
  low = omega arith;
  high = omega arith;
  is = omega arith;
}

-- a place is a positive literal
pub place_is_even : (most literal : ℕ) → IsPlace most literal → literal % 2 ≢ 1
place_is_even most literal p = omega arith

-- and it isn't after the last time
pub place_is_early : (most literal : ℕ) → IsPlace most literal → literal / 2 ≤ (most + 1) * 4
place_is_early most literal p = omega arith

-- its floor is found
pub floor_is : (most literal : ℕ) (p : IsPlace most literal) → (literal / 2 + 4 - 1) % 4 + 1 ≡ p.floor
floor_is most literal p = omega arith
