-- Truth under an assignment: a list of truth values, that of variable v at place v - 1. Past its
-- end all is false.
use Rattle.std.specs.Prelude.{◌≡◌, ℕ, ◌-◌, ◌/◌, ◌%◌, ◌==◌, Bool, true, false, not, if◌then◌else◌, List, length, slice_index_or, All}
use Rattle.std.specs.List.{list_any}

-- whether the values make the literal true
unfoldable pub true_in : List Bool → ℕ → Bool
true_in values l = if l % 2 == 0 then slice_index_or values (l / 2 - 1) false
    else not (slice_index_or values (l / 2 - 1) false)

-- whether they make the clause true, that is, one of its literals
abbrev pub clause_true : List Bool → List ℕ → Bool
clause_true values clause = list_any (true_in values) clause

-- the values make each clause true
pub record Satisfies (values : List Bool) (clauses : List (List ℕ)) : Type 0 where
  pub each : All (λ c. clause_true values c ≡ true) clauses

-- the values make each literal true
pub record MakesTrue (values : List Bool) (lits : List ℕ) : Type 0 where
  pub each : All (λ l. true_in values l ≡ true) lits

-- whatever satisfies the clauses and makes the given literals true makes l true
abbrev pub IsConsequence : List (List ℕ) → List ℕ → ℕ → Type 0
IsConsequence clauses given l = (values : List Bool) → Satisfies values clauses
    → MakesTrue values given → true_in values l ≡ true

-- nothing satisfies the clauses and makes the given literals true
abbrev pub Fail : List (List ℕ) → List ℕ → Type 0
Fail clauses given = (values : List Bool) → Satisfies values clauses → MakesTrue values given → ⊥

-- the same among lists of n values, the assignments of n variables
abbrev pub IsConsequenceAmong : ℕ → List (List ℕ) → List ℕ → ℕ → Type 0
IsConsequenceAmong n clauses given l = (values : List Bool) → length values ≡ n
    → Satisfies values clauses → MakesTrue values given → true_in values l ≡ true

abbrev pub IsImpliedAmong : ℕ → List (List ℕ) → List ℕ → Type 0
IsImpliedAmong n clauses clause = (values : List Bool) → length values ≡ n
    → Satisfies values clauses → clause_true values clause ≡ true

abbrev pub FailAmong : ℕ → List (List ℕ) → List ℕ → Type 0
FailAmong n clauses given = (values : List Bool) → length values ≡ n → Satisfies values clauses
    → MakesTrue values given → ⊥
