use Rattle.std.proofs.Common.{◌+◌, List, ℕ, sym, ◌∙◌, subst}
use Rattle.gi_scopes.proofs.Tracing.{PickedTo, picked_push, picked_skip}
use Rattle.gi_scopes.proofs.trace.pick.Goals as goal
use Rattle.gi_scopes.proofs.trace.pick.Goals.{then-is_seen+in_ok-push, else-is_seen}

pub loop-l-preserved : goal.loop-l-preserved
loop-l-preserved c =
    let P : List ℕ → Type 0 = λ xs. PickedTo c.args.trail.now.lits c.args.seen.now c.args.given.now (c.loop-l.l-index + 1) xs in
    elim c.if-is_seen.branch [
      | then-is_seen+in_ok-push w ↦ subst P (sym (w.picked-is ∙ w.in_ok-push.ensures.ok)) (picked_push c.args.trail.now.lits c.args.seen.now c.args.given.now c.loop-l.l-index c.loop-l.picked c.loop-l.invariant c.l-item.result c.loop-l-test.true c.l-item.is)
      | else-is_seen w ↦ subst P (sym w.picked-is) (picked_skip c.args.trail.now.lits c.args.seen.now c.args.given.now c.loop-l.l-index c.loop-l.picked c.loop-l.invariant c.l-item.result c.loop-l-test.true c.l-item.is (λ q s. sym (c.is_seen.ensures q s) ∙ w.if-is_seen.false))
    ]
