-- The gate that closes a cycle is one, and no gates behind it help.
use Rattle.std.proofs.Common.{◌≡◌, ℕ, ◌+◌, ◌/◌, ◌<◌, List, ◌++◌, length, take, subst, arith, length-append}
use Rattle.std.proofs.lemmas.List.{get_or_append_left}
use Rattle.gi_aiger.specs.declared.aig.AndGate.{AndGate}
use Rattle.gi_aiger.specs.Levels.{gate_at, HasLevels}
use Rattle.gi_aiger.specs.Laws.{CycleIsOne, CyclesStay}
use Rattle.gi_levels.proofs.Beginnings.{one_place}

-- levels of gates are levels of the first of them
pub part : (xs ys : List AndGate) → HasLevels (xs ++ ys) → HasLevels xs
part xs ys h = record {
  level = h.level;
  left = λ k lt. subst (λ (g : AndGate). h.level (g.rhs0 / 2) < h.level (g.lhs / 2)) (same k lt) (h.left k (within k lt));
  right = λ k lt. subst (λ (g : AndGate). h.level (g.rhs1 / 2) < h.level (g.lhs / 2)) (same k lt) (h.right k (within k lt));
} where
  same : (k : ℕ) → k < length xs → gate_at (xs ++ ys) k ≡ gate_at xs k
  same k lt = get_or_append_left xs ys (record { lhs = 0; rhs0 = 0; rhs1 = 0 }) k lt

  within : (k : ℕ) → k < length xs → k < length (xs ++ ys)
  within k lt = omega (arith, lt, length-append xs ys)

pub one : CycleIsOne
one gates j k a b = one_place HasLevels part gates j k a.before a.closes b.before b.closes

pub stay : CyclesStay
stay gates more k c h = c.closes (part (take (k + 1) gates) more h)
