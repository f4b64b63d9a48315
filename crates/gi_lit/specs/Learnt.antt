-- What may be learnt: clauses that are implied, fresh and derived.
use Rattle.std.specs.Prelude.{◌≡◌, ℕ, ◌/◌, Bool, true, List, [], ◌∷◌, ◌++◌, map, All, Contains, ◌⊎◌}
use Rattle.gi_lit.specs.Literals.{opposite, IsSubsetOf}
use Rattle.gi_lit.specs.Truth.{clause_true, Satisfies}
use Rattle.gi_lit.specs.Closure.{Conflicts}
use Rattle.gi_lit.specs.Problem.{Problem, full, IsProblemVar}

-- whatever satisfies the full clauses satisfies this one
pub record IsImplied (p : Problem) (clause : List ℕ) : Type 0 where
  pub each : (values : List Bool) → Satisfies values (full p) → clause_true values clause ≡ true

-- implied, of problem variables and active guards, without opposites, and no clause that is there
-- is a subset of it
pub record IsFresh (p : Problem) (known : List (List ℕ)) (clause : List ℕ) : Type 0 where
  pub implied : IsImplied p clause
  pub within : All (λ l. IsProblemVar p (l / 2) ⊎ Contains p.active (l / 2)) clause
  pub plain : (m : ℕ) → Contains clause m → ¬ Contains clause (opposite m)
  pub no_subset : (c : List ℕ) → Contains (full p ++ known) c → ¬ IsSubsetOf c clause

-- the unit closure under its negation conflicts
abbrev pub IsDerived : Problem → List (List ℕ) → List ℕ → Type 0
IsDerived p known clause = Conflicts (full p ++ known) (map opposite clause)

-- each is fresh and derived, with the earlier ones known
abbrev pub AreFresh : Problem → List (List ℕ) → List (List ℕ) → Type 0
AreFresh p known [] = Unit {0}
AreFresh p known (c ∷ cs) = IsFresh p known c × IsDerived p known c
    × AreFresh p (known ++ c ∷ []) cs
