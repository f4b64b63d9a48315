-- What the byte of a variable's value says.
use Rattle.std.specs.Prelude.{◌≡◌, ℕ, zero, suc, ◌≤◌, Bool, true, false, Option, Some, None}
use Rattle.std.proofs.Math.Nat.{le_of_suc-le-suc, not-suc-le-zero}

-- 0 for neither, 1 for true, else false
abbrev pub truth_of : ℕ → Option Bool
truth_of zero = None
truth_of (suc zero) = Some true
truth_of (suc (suc k)) = Some false

-- the byte that says it
abbrev pub code_of : Option Bool → ℕ
code_of None = 0
code_of (Some true) = 1
code_of (Some false) = 2

-- no two bytes up to 2 say the same
pub code_of-truth_of : (c : ℕ) → c ≤ 2 → code_of (truth_of c) ≡ c
code_of-truth_of zero h = λ i. zero
code_of-truth_of (suc zero) h = λ i. suc zero
code_of-truth_of (suc (suc zero)) h = λ i. suc (suc zero)
code_of-truth_of (suc (suc (suc k))) h =
    absurd (not-suc-le-zero (le_of_suc-le-suc (le_of_suc-le-suc h)))
