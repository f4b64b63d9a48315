use Rattle.std.proofs.Common.{◌≡◌, map, take}
use Rattle.gi_aiger_binary.specs.Renumbering.{literal_by}
use Rattle.gi_aiger.specs.Tables.{value_of}
use Rattle.gi_aiger_binary.proofs.renumbering.lists.Given as goal

abbrev pub invariant-loop-list : goal.invariant-loop-list
invariant-loop-list l = l.out ≡ map (map (literal_by (value_of l.fn.numbers))) (take l.list-index l.lists)
