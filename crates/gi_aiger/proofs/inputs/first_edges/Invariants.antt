use Rattle.std.proofs.Common.{◌≡◌}
use Rattle.gi_aiger.specs.Evens.{evens}
use Rattle.gi_aiger.proofs.inputs.first_edges.Given as goal

abbrev pub invariant-loop-i : goal.invariant-loop-i
invariant-loop-i l = l.edges.items ≡ evens l.i
