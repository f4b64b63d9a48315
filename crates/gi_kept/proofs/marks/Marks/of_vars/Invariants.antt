use Rattle.std.proofs.Common.{◌<◌, length, take}
use Rattle.std.specs.List.{All}
use Rattle.gi_kept.specs.Marks.{AreMarked}
use Rattle.gi_kept.proofs.marks.Marks.of_vars.Given as goal

abbrev pub invariant-loop-v : goal.invariant-loop-v
invariant-loop-v l = record { marked : AreMarked l.marks (take l.v-index l.vars); size : All (λ v. v < length l.marks) l.vars }
