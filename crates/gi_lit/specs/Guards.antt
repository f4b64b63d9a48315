-- The law on guards: how the full clauses and the clauses in force differ, with no word on how a
-- group is kept.
use Rattle.std.specs.Prelude.{◌≡◌, ℕ, ◌+◌, ◌*◌, ◌/◌, ◌≤◌, List, All, Contains, ◌⊎◌}
use Rattle.gi_lit.specs.Literals.{IsSubsetOf}
use Rattle.gi_lit.specs.Problem.{Problem, full, in_force, IsPlain}

-- the literal is the negative one of an active guard that is given
pub record IsGiven (p : Problem) (given : List ℕ) (l : ℕ) : Type 0 where
  pub guard : ℕ
  pub active : Contains p.active guard
  pub negative : l ≡ 2 * guard + 1
  pub stands : Contains given (2 * guard)

-- d is c less negative literals of guards that are given
pub record IsLess (p : Problem) (given c d : List ℕ) : Type 0 where
  pub part : IsSubsetOf d c
  pub others : All (λ l. Contains d l ⊎ IsGiven p given l) c

-- c has the negative literal of an active guard that isn't given
pub record IsAsleep (p : Problem) (given c : List ℕ) : Type 0 where
  pub guard : ℕ
  pub active : Contains p.active guard
  pub negative : Contains c (2 * guard + 1)
  pub missing : ¬ Contains given (2 * guard)

-- a guard's variable stands in negative literals alone, and a freed one's nowhere
pub record IsGuardedLit (p : Problem) (l : ℕ) : Type 0 where
  pub low : 1 ≤ l / 2
  pub high : l / 2 ≤ p.vars
  pub unfreed : ¬ Contains p.freed (l / 2)
  pub negative : Contains p.active (l / 2) → l ≡ 2 * (l / 2) + 1

-- clauses in force are of problem variables, and each is a full clause less negative literals of
-- guards that are given; each other full clause has the negative literal of an active guard that
-- isn't given
pub record RestsOnGuards (p : Problem) (given : List ℕ) : Type 0 where
  pub lits : All (All (IsGuardedLit p)) (full p)
  pub plain : All (IsPlain p) (in_force p given)
  pub awake : (d : List ℕ) → Contains (in_force p given) d
      → (c : List ℕ) × Contains (full p) c × IsLess p given c d
  pub others : (c : List ℕ) → Contains (full p) c
      → ((d : List ℕ) × Contains (in_force p given) d × IsLess p given c d) ⊎ IsAsleep p given c
