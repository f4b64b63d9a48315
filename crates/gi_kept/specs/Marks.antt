-- Sets of numbers as tables, and questions to them.
use Rattle.std.specs.Prelude.{◌≡◌, ℕ, ◌*◌, ◌/◌, ◌||◌, not, Bool, false, List, slice_index_or}
use Rattle.std.specs.List.{list_all, list_any}
use Rattle.gi_lit.specs.Problem.{Group, has}

-- the table is true at the numbers of the list, and nowhere else
pub record AreMarked (marks : List Bool) (xs : List ℕ) : Type 0 where
  pub each : (x : ℕ) → slice_index_or marks x false ≡ has xs x

-- one literal of the clause is marked
abbrev pub meets_marked : List Bool → List ℕ → Bool
meets_marked model clause = list_any (λ l. slice_index_or model l false) clause

-- some guard isn't assumed, or one literal of the clause is marked
abbrev pub has_marked : List Bool → List Bool → Group → Bool
has_marked model assumed q = not (list_all (λ g. slice_index_or assumed (2 * g) false) q.guards)
    || meets_marked model q.clause

-- the variable is a guard, or the literal is marked
abbrev pub holds_marked : List Bool → List Bool → ℕ → Bool
holds_marked guards model l = slice_index_or guards (l / 2) false || slice_index_or model l false
