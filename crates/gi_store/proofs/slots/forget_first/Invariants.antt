use Rattle.gi_store.proofs.Forgetting.{ForgettingFirst}
use Rattle.gi_store.proofs.slots.forget_first.Given as goal

abbrev pub invariant-loop-i : goal.invariant-loop-i
invariant-loop-i l = ForgettingFirst l.fn.slots l.slots l.keys.items l.i
