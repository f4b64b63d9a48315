-- Laws over the definitions.
use Rattle.std.specs.Prelude.{◌≡◌, ℕ, ◌∷◌, ◌/◌, ◌^◌, ◌≤◌, ◌↔◌, Bool, true, List, length, map, All, Contains}
use Rattle.gi_lit.specs.Literals.{opposite, IsWithin}
use Rattle.gi_lit.specs.Truth.{clause_true, Satisfies, MakesTrue, IsConsequence, IsConsequenceAmong, IsImpliedAmong, Fail, FailAmong}
use Rattle.gi_lit.specs.Closure.{IsDerivation, InClosure, Conflicts, IsConsistent, IsClosed}
use Rattle.gi_lit.specs.Problem.{Problem, in_force, full, IsWellFormed, IsProblemVar, IsAssumable}
use Rattle.gi_lit.specs.Guards.{RestsOnGuards}
use Rattle.gi_lit.specs.Learnt.{IsImplied, AreFresh}

-- where literals are of variables from 1 to n, some list of n values does what any values do
abbrev pub ListsOfValuesSuffice : Type 0
ListsOfValuesSuffice = (n : ℕ) (clauses : List (List ℕ)) (lits : List ℕ) → All (IsWithin n) clauses
    → IsWithin n lits → (values : List Bool) → Satisfies values clauses → MakesTrue values lits
    → (fitted : List Bool) × (length fitted ≡ n) × Satisfies fitted clauses × MakesTrue fitted lits

-- and what is a consequence, or fails, among those is so among all
abbrev pub ConsequencesAreAmong : Type 0
ConsequencesAreAmong = (n : ℕ) (clauses : List (List ℕ)) (given : List ℕ) (l : ℕ)
    → All (IsWithin n) clauses → IsWithin n (l ∷ given) → IsConsequenceAmong n clauses given l
    ↔ IsConsequence clauses given l

abbrev pub FailuresAreAmong : Type 0
FailuresAreAmong = (n : ℕ) (clauses : List (List ℕ)) (given : List ℕ) → All (IsWithin n) clauses
    → IsWithin n given → FailAmong n clauses given ↔ Fail clauses given

-- and a clause is implied by a problem exactly where it is among lists of values of the problem's
-- variables
abbrev pub ImpliedClausesAreAmong : Type 0
ImpliedClausesAreAmong = (p : Problem) (clause : List ℕ) → IsWellFormed p → IsWithin p.vars clause
    → IsImpliedAmong p.vars (full p) clause ↔ IsImplied p clause

-- what a derivation contains is a consequence
abbrev pub DerivationsAreSound : Type 0
DerivationsAreSound = (clauses : List (List ℕ)) (given lits : List ℕ)
    → IsDerivation clauses given lits → All (IsConsequence clauses given) lits

-- where the unit closure conflicts, clauses and literals fail together
abbrev pub ConflictsAreSound : Type 0
ConflictsAreSound = (clauses : List (List ℕ)) (given : List ℕ) → Conflicts clauses given
    → Fail clauses given

-- a clause under whose negation the unit closure conflicts is true wherever the clauses are
abbrev pub DerivedClausesAreTrue : Type 0
DerivedClausesAreTrue = (clauses : List (List ℕ)) (clause : List ℕ)
    → Conflicts clauses (map opposite clause) → (values : List Bool) → Satisfies values clauses
    → clause_true values clause ≡ true

-- a closed list without opposites that has what is given has all of every derivation
abbrev pub ClosedListsAreWhole : Type 0
ClosedListsAreWhole = (clauses : List (List ℕ)) (given lits : List ℕ) → IsClosed clauses lits
    → IsConsistent lits → All (Contains lits) given → (derivation : List ℕ)
    → IsDerivation clauses given derivation → All (Contains lits) derivation

-- and then the unit closure doesn't conflict
abbrev pub ClosedListsAreFree : Type 0
ClosedListsAreFree = (clauses : List (List ℕ)) (given lits : List ℕ) → IsClosed clauses lits
    → IsConsistent lits → All (Contains lits) given → ¬ Conflicts clauses given

-- what fails over the full clauses fails over those in force
abbrev pub GuardsAreSound : Type 0
GuardsAreSound = (p : Problem) (given : List ℕ) → IsWellFormed p → All (λ l. 1 ≤ l / 2) given
    → Fail (full p) given → Fail (in_force p given) given

-- in a well formed problem the law on guards holds
abbrev pub ProblemsRestOnGuards : Type 0
ProblemsRestOnGuards = (p : Problem) (given : List ℕ) → IsWellFormed p → RestsOnGuards p given

-- under assumable literals the unit closure of the full clauses has the problem literals of that of
-- the clauses in force, and no others
abbrev pub ClosuresAgree : Type 0
ClosuresAgree = (p : Problem) (given : List ℕ) → IsWellFormed p → All (IsAssumable p) given
    → (l : ℕ) → IsProblemVar p (l / 2) → InClosure (full p) given l
    ↔ InClosure (in_force p given) given l

-- and the one conflicts exactly where the other does
abbrev pub ConflictsAgree : Type 0
ConflictsAgree = (p : Problem) (given : List ℕ) → IsWellFormed p → All (IsAssumable p) given
    → Conflicts (full p) given ↔ Conflicts (in_force p given) given

-- clauses of n variables, each fresh after those before it, are at most 3^n
abbrev pub FreshClausesAreFew : Type 0
FreshClausesAreFew = (p : Problem) (known news : List (List ℕ)) → IsWellFormed p
    → AreFresh p known news → length news ≤ 3 ^ p.vars
