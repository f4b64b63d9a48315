use Rattle.std.proofs.Common.{◌≡◌, take}
use Rattle.std.specs.List.{flat_map}
use Rattle.gi_kept.proofs.kept.join.Given as goal

abbrev pub invariant-loop-list : goal.invariant-loop-list
invariant-loop-list l = l.joined.items ≡ flat_map (λ ls. ls) (take l.list-index l.lists)
