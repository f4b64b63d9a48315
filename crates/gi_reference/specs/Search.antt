-- What the search over all assignments and the unit closure by looking through the clauses find.
use Rattle.std.specs.Prelude.{◌≡◌, ℕ, ◌-◌, ◌/◌, ◌<◌, ◌≤◌, ◌↔◌, ◌==◌, ◌&&◌, ◌||◌, ◌++◌, Bool, false, not, List, length, take, slice_index, slice_index_or, All, Contains}
use Rattle.std.specs.List.{list_any, list_all}
use Rattle.gi_lit.specs.Literals.{opposite}
use Rattle.gi_lit.specs.Truth.{Satisfies, MakesTrue}
use Rattle.gi_lit.specs.Closure.{Forces, IsFalsified, Clashes, IsSettled, IsClosed, IsConsistent, InClosure, Conflicts}
use Rattle.gi_lit.specs.Problem.{has}
use Rattle.gi_reference.specs.declared.outcome.Scan.{Scan}
use Rattle.gi_reference.specs.declared.outcome.Scan.TheVariants.{Settled, Forced, Falsified}
use Rattle.gi_reference.specs.declared.outcome.Next.{Next}
use Rattle.gi_reference.specs.declared.outcome.Next.TheVariants as next
use Rattle.gi_reference.specs.declared.outcome.Outcome.{Outcome}
use Rattle.gi_reference.specs.declared.outcome.Outcome.TheVariants as outcome

-- the values agree with those from place k on, up to the end of those
abbrev pub AgreesFrom : ℕ → List Bool → List Bool → Type 0
AgreesFrom k values those = (i : ℕ) → k ≤ i → i < length those
    → slice_index_or values i false ≡ slice_index_or those i false

-- no values that agree with those from place k on satisfy the clauses and make the literals true
pub record FailsFrom (clauses : List (List ℕ)) (lits : List ℕ) (k : ℕ) (those : List Bool) : Type
    0 where
  pub none : (values : List Bool) → AgreesFrom k values those → Satisfies values clauses
      → MakesTrue values lits → ⊥

-- each literal's value has its place in a list of n values
abbrev pub IsWithin : ℕ → List ℕ → Type 0
IsWithin n lits = All (λ l. l / 2 - 1 < n) lits

-- what a clause says after the literals: nothing more, the one literal that it forces, or that it
-- is false
abbrev pub IsScan : List ℕ → List ℕ → Scan → Type 0
IsScan lits clause Settled = IsSettled lits clause
IsScan lits clause (Forced l) = Forces clause l lits × (list_any (has lits) clause ≡ false)
IsScan lits clause Falsified = IsFalsified lits clause

-- a clause forces the literal, and has none that is there
pub record IsForced (clauses : List (List ℕ)) (lits : List ℕ) (l : ℕ) : Type 0 where
  pub clause : List ℕ
  pub stands : Contains clauses clause
  pub forces : Forces clause l lits
  pub unmet : list_any (has lits) clause ≡ false

-- what comes after the literals: a clash, a literal that is forced, or nothing
abbrev pub IsNext : List (List ℕ) → List ℕ → Next → Type 0
IsNext clauses lits next.Clash = Clashes clauses lits
IsNext clauses lits (next.Forced l) = IsForced clauses lits l
IsNext clauses lits next.Closed = IsClosed clauses lits × IsConsistent lits

-- the unit closure: it conflicts, or these are its literals
abbrev pub IsOutcome : List (List ℕ) → List ℕ → Outcome → Type 0
IsOutcome clauses given outcome.Conflict = Conflicts clauses given
IsOutcome clauses given (outcome.Whole lits) = ¬ Conflicts clauses given
    × ((m : ℕ) → InClosure clauses given m ↔ Contains lits m)

-- whether the clause has the literal, and the opposites of its other literals are among the earlier
-- ones
unfoldable pub forces : List ℕ → ℕ → List ℕ → Bool
forces clause l earlier = has clause l
    && list_all (λ m. (l == m) || has earlier (opposite m)) clause

-- after the start and the literals before it, each literal is forced by a clause
abbrev pub HaveCauses : List (List ℕ) → List ℕ → List ℕ → Type 0
HaveCauses clauses start lits = (k : ℕ) → k < length lits
    → (c : List ℕ) × Contains clauses c × Forces c (slice_index lits k) (start ++ take k lits)

-- whether the reasons are the opposites of the clause's literals other than m
unfoldable pub explains : List ℕ → ℕ → List ℕ → Bool
explains clause m reasons = forces clause m reasons
    && list_all (λ r. not (opposite r == m) && has clause (opposite r)) reasons
