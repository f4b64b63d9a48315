use Rattle.gi_store.proofs.Forgetting.{ForgettingGroups}
use Rattle.gi_store.proofs.slots.forget_groups.Given as goal

abbrev pub invariant-loop-i : goal.invariant-loop-i
invariant-loop-i l = ForgettingGroups l.guard l.fn.slots l.slots l.fn.groups.items l.groups.items l.kept l.i l.gone
