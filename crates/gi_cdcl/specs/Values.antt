-- The values that a trail gives.
use Rattle.std.specs.Prelude.{◌≡◌, ℕ, ◌+◌, ◌*◌, ◌/◌, ◌≤◌, Bool, true, false, List, length, Contains, ◌⊎◌}
use Rattle.gi_lit.specs.Literals.{opposite}
use Rattle.gi_lit.specs.Truth.{true_in}
use Rattle.gi_store.specs.StoreView.{StoreView}
use Rattle.gi_cdcl.specs.Sound.{IsUsed}

-- each problem variable and each active guard has a value
abbrev pub AllAssigned : StoreView → List ℕ → Type 0
AllAssigned h lits = (l : ℕ) → IsUsed h l → Contains lits l ⊎ Contains lits (opposite l)

-- each of these among the first n variables has a value
pub record IsPassed (h : StoreView) (lits : List ℕ) (n : ℕ) : Type 0 where
  pub each : (l : ℕ) → IsUsed h l → l / 2 ≤ n → Contains lits l ⊎ Contains lits (opposite l)

-- whether the variable at place v is true
abbrev pub IsValueOf : List ℕ → ℕ → Bool → Type 0
IsValueOf lits v true = Contains lits (2 * (v + 1))
IsValueOf lits v false = ¬ Contains lits (2 * (v + 1))

-- the values make each literal of the list true
pub record IsAssignment (vars : ℕ) (lits : List ℕ) (values : List Bool) : Type 0 where
  pub len : length values ≡ vars
  pub each : (l : ℕ) → 1 ≤ l / 2 → l / 2 ≤ vars → Contains lits l → true_in values l ≡ true
