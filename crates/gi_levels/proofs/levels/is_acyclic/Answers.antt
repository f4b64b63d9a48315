use Rattle.std.proofs.Common.{subst, List, sym}
use Rattle.std.specs.Prelude.{MatchBool, Bool}
use Rattle.gi_levels.specs.declared.levels.Node.{Node}
use Rattle.gi_levels.specs.Levels.{HasLevels}
use Rattle.gi_levels.proofs.Prefixes.{told}
use Rattle.gi_levels.proofs.levels.is_acyclic.Goals as goal

pub returns : goal.returns
returns c =
    subst (λ (ns : List Node). MatchBool c.has_levels.result (HasLevels ns) (HasLevels ns → ⊥)) c.front.ensures
    (subst (λ (b : Bool). MatchBool b (HasLevels c.front.result.now) (HasLevels c.front.result.now → ⊥)) (sym c.has_levels.ensures) (told c.front.result.now c.in_ok-levels.levels c.in_ok-levels.ensures))
