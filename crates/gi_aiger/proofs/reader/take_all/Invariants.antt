use Rattle.std.proofs.Common.{◌≡◌, take}
use Rattle.gi_aiger.specs.Machine.{IsFit, run}
use Rattle.gi_aiger.proofs.reader.take_all.Given as goal

abbrev pub invariant-loop-byte : goal.invariant-loop-byte
invariant-loop-byte l = record { run : l.machine ≡ run l.fn.machine (take l.byte-index l.piece); fit : IsFit l.machine }
