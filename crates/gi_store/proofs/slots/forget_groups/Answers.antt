use Rattle.std.proofs.Common.{sym, ◌∙◌, arith}
use Rattle.gi_store.proofs.Forgetting.{groups_no, groups_yes, groups_end, gone_within}
use Rattle.gi_store.proofs.slots.forget_groups.Goals as goal
use Rattle.gi_store.proofs.slots.forget_groups.Goals.{then-is_under, else-is_under}

pub overflow_add-gone : goal.overflow_add-gone
overflow_add-gone c =
    let w = gone_within _ _ _ _ _ _ _ _ _ c.loop-i.invariant (omega arith) c.index-group.ensures in
    omega (arith, w, c.group_length-lits.ensures, c.requires.fits)

pub loop-i-preserved : goal.loop-i-preserved
loop-i-preserved c = elim c.if-is_under.branch [
  | then-is_under w ↦ rw (w.slots-is, w.groups-is, w.kept-is, w.gone-is, w.group_length-lits.ensures) (groups_no _ _ _ _ _ _ _ _ _ c.loop-i.invariant (omega arith) c.index-group.ensures _ (sym c.is_under.ensures ∙ w.if-is_under.true) w.forget.ensures)
  | else-is_under w ↦ rw (w.slots-is, w.groups-is, w.kept-is, w.gone-is) (groups_yes _ _ _ _ _ _ _ _ _ c.loop-i.invariant (omega arith) c.index-group.ensures (sym c.is_under.ensures ∙ w.if-is_under.false))
]

pub returns-clause-gone : goal.returns-clause-gone
returns-clause-gone c = groups_end _ _ _ _ _ _ _ _ c.loop-i.invariant (omega arith) _ c.truncate.ensures.items
