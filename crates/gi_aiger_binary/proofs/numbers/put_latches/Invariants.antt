use Rattle.std.proofs.Common.{◌≡◌, ◌++◌, ◌/◌, map, take}
use Rattle.gi_aiger.specs.declared.aig.Latch.{Latch}
use Rattle.gi_aiger_binary.proofs.numbers.put_latches.Given as goal

abbrev pub invariant-loop-latch : goal.invariant-loop-latch
invariant-loop-latch l = l.variables.items ≡ l.fn.variables.items ++ map (λ (l : Latch). l.lit / 2) (take l.latch-index l.latches)
