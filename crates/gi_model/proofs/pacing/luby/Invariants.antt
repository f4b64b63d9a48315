use Rattle.std.proofs.Common.{◌-◌, ◌+◌}
use Rattle.gi_model.proofs.Folding.{IsFolded}
use Rattle.gi_model.proofs.pacing.luby.Given as goal

abbrev pub invariant-loop-k : goal.invariant-loop-k
invariant-loop-k l = IsFolded (l.place + 1) l.left l.size (32 - l._k)
