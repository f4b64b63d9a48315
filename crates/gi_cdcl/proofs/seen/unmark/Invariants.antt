use Rattle.std.proofs.Common.{take}
use Rattle.gi_cdcl.proofs.Touching.{IsLess}
use Rattle.gi_cdcl.proofs.seen.unmark.Given as goal

abbrev pub invariant-loop-place : goal.invariant-loop-place
invariant-loop-place l = IsLess l.fn.flags.items l.flags.items (take l.place-index l.touched)
