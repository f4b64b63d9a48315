use Rattle.std.proofs.Common.{◌≡◌, take}
use Rattle.gi_dimacs.specs.Machine.{run}
use Rattle.gi_dimacs.proofs.reader.take_all.Given as goal

abbrev pub invariant-loop-byte : goal.invariant-loop-byte
invariant-loop-byte l = l.machine ≡ run l.fn.machine (take l.byte-index l.piece)
