use Rattle.std.proofs.Common.{sym, ◌∙◌, arith}
use Rattle.gi_store.proofs.Forgetting.{forgetting_no, forgetting_yes}
use Rattle.gi_store.proofs.slots.forget_naming.Goals as goal
use Rattle.gi_store.proofs.slots.forget_naming.Goals.{then-is_named, else-is_named}

pub loop-i-preserved : goal.loop-i-preserved
loop-i-preserved c = elim c.if-is_named.branch [
  | then-is_named w ↦ rw (w.slots-is, w.keys-is, w.kept-is) (forgetting_no _ _ _ _ _ _ _ _ c.loop-i.invariant (omega arith) c.index-key.ensures _ (sym c.is_named.ensures ∙ w.if-is_named.true) w.forget.ensures)
  | else-is_named w ↦ rw (w.slots-is, w.keys-is, w.kept-is) (forgetting_yes _ _ _ _ _ _ _ _ c.loop-i.invariant (omega arith) c.index-key.ensures (sym c.is_named.ensures ∙ w.if-is_named.false))
]
