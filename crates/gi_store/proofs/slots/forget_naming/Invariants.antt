use Rattle.gi_store.proofs.Forgetting.{Forgetting}
use Rattle.gi_store.proofs.slots.forget_naming.Given as goal

abbrev pub invariant-loop-i : goal.invariant-loop-i
invariant-loop-i l = Forgetting l.v l.fn.slots l.slots l.fn.keys.items l.keys.items l.kept l.i
