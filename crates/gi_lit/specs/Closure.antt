-- Unit closure: what clauses force, one literal after the other, from literals that are given.
use Rattle.std.specs.Prelude.{◌≡◌, ◌≢◌, ℕ, ◌<◌, List, length, take, slice_index, All, Contains, ◌⊎◌}
use Rattle.gi_lit.specs.Literals.{opposite}

-- l stands in the clause, and the opposite of each other literal of it stands earlier; a literal
-- that is repeated counts once
pub record Forces (clause : List ℕ) (l : ℕ) (earlier : List ℕ) : Type 0 where
  pub stands : Contains clause l
  pub others : All (λ m. (m ≡ l) ⊎ Contains earlier (opposite m)) clause

-- l may come next: it is given, or a clause forces it
abbrev pub IsStep : List (List ℕ) → List ℕ → List ℕ → ℕ → Type 0
IsStep clauses given earlier l = Contains given l
    ⊎ ((clause : List ℕ) × Contains clauses clause × Forces clause l earlier)

-- each literal is given, or is forced by a clause and the literals before it
pub record IsDerivation (clauses : List (List ℕ)) (given lits : List ℕ) : Type 0 where
  pub each : (k : ℕ) → k < length lits → IsStep clauses given (take k lits) (slice_index lits k)

-- a literal of the unit closure: one that a derivation contains
pub record InClosure (clauses : List (List ℕ)) (given : List ℕ) (l : ℕ) : Type 0 where
  pub lits : List ℕ
  pub derived : IsDerivation clauses given lits
  pub stands : Contains lits l

-- the opposite of each literal of the clause stands in the list
abbrev pub IsFalsified : List ℕ → List ℕ → Type 0
IsFalsified lits clause = All (λ m. Contains lits (opposite m)) clause

-- the list has a literal and its opposite, or the opposites of all literals of a clause
abbrev pub Clashes : List (List ℕ) → List ℕ → Type 0
Clashes clauses lits = ((l : ℕ) × Contains lits l × Contains lits (opposite l))
    ⊎ ((clause : List ℕ) × Contains clauses clause × IsFalsified lits clause)

-- the unit closure conflicts: some derivation clashes. An empty clause conflicts at once
pub record Conflicts (clauses : List (List ℕ)) (given : List ℕ) : Type 0 where
  pub lits : List ℕ
  pub derived : IsDerivation clauses given lits
  pub clash : Clashes clauses lits

-- no literal stands beside its opposite
pub record IsConsistent (lits : List ℕ) : Type 0 where
  pub each : (l : ℕ) → Contains lits l → ¬ Contains lits (opposite l)

-- the clause has a literal of the list, or two different literals whose opposites aren't there: it
-- forces nothing
pub data IsSettled (lits clause : List ℕ) : Type 0 where
  has_true : (l : ℕ) → Contains clause l → Contains lits l → IsSettled lits clause
  has_two : (l m : ℕ) → Contains clause l → Contains clause m → l ≢ m → ¬ Contains lits (opposite l)
      → ¬ Contains lits (opposite m) → IsSettled lits clause

-- no clause forces anything more
pub record IsClosed (clauses : List (List ℕ)) (lits : List ℕ) : Type 0 where
  pub each : All (λ c. IsSettled lits c) clauses
