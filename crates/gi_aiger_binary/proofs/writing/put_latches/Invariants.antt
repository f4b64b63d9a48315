use Rattle.std.proofs.Common.{◌≡◌, ◌++◌, take}
use Rattle.std.specs.List.{flat_map}
use Rattle.gi_aiger_binary.specs.Texts.{latch_line}
use Rattle.gi_aiger_binary.proofs.writing.put_latches.Given as goal

abbrev pub invariant-loop-latch : goal.invariant-loop-latch
invariant-loop-latch l = l.out ≡ l.fn.out ++ flat_map latch_line (take l.latch-index l.latches)
