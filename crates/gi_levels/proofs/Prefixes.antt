-- Levels of a part.
use Rattle.std.proofs.Common.{◌≡◌, ℕ, ◌<◌, List, [], ◌∷◌, length, take, get_or, ◌⊎◌, inl, inr, MatchBool, sym, subst, arith}
use Rattle.gi_levels.specs.declared.levels.Node.{Node}
use Rattle.gi_levels.specs.declared.levels.Levels.{Levels}
use Rattle.gi_levels.specs.declared.levels.Levels.TheVariants.{Found, Cycle}
use Rattle.gi_levels.specs.Levels.{node_at, HasLevels, AreLevels}
use Rattle.gi_levels.specs.Found.{FindsLevels, is_found}

pub levels_are : (nodes : List Node) (levels : List ℕ) → AreLevels nodes levels → HasLevels nodes
levels_are nodes levels h = record { level = λ k. get_or levels k 0; falls = λ k o p. falls k o p.0 p.2 } where
  falls : (k o : ℕ) → k < length nodes → (o ≡ (node_at nodes k).left) ⊎ (o ≡ (node_at nodes k).right) → get_or levels o 0 < get_or levels k 0
  falls k o lt (inl e) = subst (λ (i : ℕ). get_or levels i 0 < get_or levels k 0) (sym e) (omega (arith, h.each k lt))
  falls k o lt (inr e) = subst (λ (i : ℕ). get_or levels i 0 < get_or levels k 0) (sym e) (omega (arith, h.each k lt))

-- no gates have no cycle
pub none_has : (nodes : List Node) → HasLevels (take 0 nodes)
none_has nodes = record { level = λ k. 0; falls = λ k o p. absurd (omega (arith, p.0)) }

pub some_nodes : (nodes : List Node) → (HasLevels (take (length nodes) nodes) → ⊥) → 0 < length nodes
some_nodes [] h = absurd (h (none_has []))
some_nodes (n ∷ ns) h = omega arith

pub told : (nodes : List Node) (l : Levels) → FindsLevels nodes l → MatchBool (is_found l) (HasLevels nodes) (HasLevels nodes → ⊥)
told nodes (Found levels) h = levels_are nodes levels.items h
told nodes Cycle h = h
