use Rattle.std.proofs.Common.{◌≡◌, ◌++◌, take, length}
use Rattle.std.specs.List.{flat_map}
use Rattle.gi_aiger.specs.Texts.{number_line}
use Rattle.gi_aiger.proofs.line_writers.put_sizes.Given as goal

abbrev pub invariant-loop-list : goal.invariant-loop-list
invariant-loop-list l = l.out ≡ l.fn.out ++ flat_map (λ p. number_line (length p)) (take l.list-index l.lists)
