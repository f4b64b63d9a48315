-- Levels of a part, and the one line.
use Rattle.std.proofs.Common.{◌≡◌, ℕ, ◌+◌, List, ◌++◌, take, ◌⊎◌, sym, subst, arith, length-append}
use Rattle.std.proofs.lemmas.List.{get_or_append_left}
use Rattle.gi_levels.specs.declared.levels.Node.{Node}
use Rattle.gi_levels.specs.Levels.{node_at, IsOperand, HasLevels}
use Rattle.gi_levels.specs.Cycles.{CycleIsOne, CyclesStay}
use Rattle.gi_levels.proofs.Beginnings.{one_place}

pub part : (xs ys : List Node) → HasLevels (xs ++ ys) → HasLevels xs
part xs ys h = record { level = h.level; falls = λ k o p. h.falls k o (more k o p) } where
  more : (k o : ℕ) → IsOperand xs k o → IsOperand (xs ++ ys) k o
  more k o p =
      let same : node_at (xs ++ ys) k ≡ node_at xs k = get_or_append_left xs ys (record { left = 0; right = 0 }) k p.0 in
      let len = length-append xs ys in
      (omega (arith, p.0, len), omega (arith, p.1, len), subst (λ (n : Node). (o ≡ n.left) ⊎ (o ≡ n.right)) (sym same) p.2)

pub one : CycleIsOne
one nodes j k a b = one_place HasLevels part nodes j k a.before a.closes b.before b.closes

pub stay : CyclesStay
stay nodes more k c h = c.closes (part (take (k + 1) nodes) more h)
