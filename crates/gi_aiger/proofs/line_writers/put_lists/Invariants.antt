use Rattle.std.proofs.Common.{◌≡◌, ◌++◌, take}
use Rattle.std.specs.List.{flat_map}
use Rattle.gi_aiger.specs.Texts.{number_lines}
use Rattle.gi_aiger.proofs.line_writers.put_lists.Given as goal

abbrev pub invariant-loop-list : goal.invariant-loop-list
invariant-loop-list l = l.out ≡ l.fn.out ++ flat_map number_lines (take l.list-index l.lists)
