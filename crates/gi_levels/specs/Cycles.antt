-- The line that closes a cycle is one, and no continuation helps.
use Rattle.std.specs.Prelude.{◌≡◌, ℕ, ◌+◌, List, ◌++◌, take}
use Rattle.gi_levels.specs.declared.levels.Node.{Node}
use Rattle.gi_levels.specs.Levels.{HasLevels, ClosesCycle}

abbrev pub CycleIsOne : Type 0
CycleIsOne = (nodes : List Node) (j k : ℕ) → ClosesCycle nodes j → ClosesCycle nodes k → j ≡ k

abbrev pub CyclesStay : Type 0
CyclesStay = (nodes more : List Node) (k : ℕ) → ClosesCycle nodes k
    → HasLevels (take (k + 1) nodes ++ more) → ⊥
