use Rattle.std.proofs.Common.{◌≡◌, map, take}
use Rattle.gi_aiger.specs.Levels.{gate_at}
use Rattle.gi_aiger_binary.proofs.renumbering.in_order.Given as goal

abbrev pub invariant-loop-place : goal.invariant-loop-place
invariant-loop-place l = l.ordered.items ≡ map (gate_at l.gates) (take l.place-index l.place-items)
