use Rattle.std.proofs.Common.{◌≡◌, take}
use Rattle.gi_model.specs.Replies.{model_of}
use Rattle.gi_core.proofs.asking.true_literals.Given as goal

abbrev pub invariant-loop-i : goal.invariant-loop-i
invariant-loop-i l = l.lits ≡ model_of l.solver.problem (take l.i l.values)
