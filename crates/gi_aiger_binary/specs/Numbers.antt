-- The numbers that are given to variables, one after another.
use Rattle.std.specs.Prelude.{ℕ, ◌==◌, ◌&&◌, not, if◌then◌else◌}

-- a variable that has no number has this one; variable 0 has none
abbrev pub noted : (ℕ → ℕ) → ℕ → ℕ → ℕ → ℕ
noted numbers variable number x = if ((variable == x) && not (x == 0)) && (numbers x == 0)
    then number else numbers x
