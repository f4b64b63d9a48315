use Rattle.std.proofs.Common.{◌≤◌, take}
use Rattle.std.specs.List.{All}
use Rattle.gi_kept.proofs.marks.greatest.Given as goal

abbrev pub invariant-loop-v : goal.invariant-loop-v
invariant-loop-v l = record { high : l.greatest ≤ 16777216; within : All (λ x. x ≤ l.greatest) (take l.v-index l.vars) }
