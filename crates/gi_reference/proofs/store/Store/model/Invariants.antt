use Rattle.std.proofs.Common.{◌≡◌, take}
use Rattle.gi_model.specs.Replies.{model_from}
use Rattle.gi_reference.proofs.store.Store.model.Given as goal

abbrev pub invariant-loop-i : goal.invariant-loop-i
invariant-loop-i l = l.lits ≡ model_from l.self 1 (take l.i l.values)
