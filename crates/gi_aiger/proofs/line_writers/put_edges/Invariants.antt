use Rattle.std.proofs.Common.{◌≡◌, ◌++◌, take}
use Rattle.std.specs.List.{flat_map}
use Rattle.gi_aiger.specs.Texts.{number_line}
use Rattle.gi_aiger.proofs.line_writers.put_edges.Given as goal

abbrev pub invariant-loop-edge : goal.invariant-loop-edge
invariant-loop-edge l = l.out ≡ l.fn.out ++ flat_map number_line (take l.edge-index l.edges)
