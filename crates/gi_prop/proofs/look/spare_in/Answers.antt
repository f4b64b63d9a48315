use Rattle.std.proofs.Common.{sym, inl, inr}
use Rattle.std.proofs.lemmas.Bool.{not-false, eqb-true}
use Rattle.gi_prop.proofs.Seeking.{others_more, others_all}
use Rattle.gi_prop.proofs.look.spare_in.Goals as goal
use Rattle.gi_prop.proofs.look.spare_in.Goals.{else-ne-via-then-ne+else-not-is_false, else-ne-via-else-ne}

pub loop-l-preserved : goal.loop-l-preserved
loop-l-preserved c = others_more c.args.trail.now.lits c.args.clause.now _ _ c.loop-l-test.true c.l-item.is c.args.other c.loop-l.invariant (elim c.else-ne.branch [
  | else-ne-via-then-ne+else-not-is_false w ↦ inr (w.is_false.ensures.0 w.if-not-is_false.false)
  | else-ne-via-else-ne w ↦ inl (eqb-true _ _ (not-false _ (sym w.if-ne.ensures)))
])

pub returns : goal.returns
returns c = others_all c.args.trail.now.lits c.args.clause.now _ c.args.other c.loop-l-test.false c.loop-l.invariant
