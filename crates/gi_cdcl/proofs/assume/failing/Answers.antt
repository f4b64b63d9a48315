use Rattle.std.proofs.Common.{◌+◌, ℕ, subst, sym, ◌∙◌, List}
use Rattle.std.proofs.lemmas.Bool.{false≢true}
use Rattle.gi_cdcl.proofs.Assuming.{Found, Found-push, Found-skip}
use Rattle.gi_cdcl.proofs.assume.failing.Goals as goal
use Rattle.gi_cdcl.proofs.assume.failing.Goals.{then-is_wanted+in_ok-push, else-is_wanted}

pub loop-l-preserved : goal.loop-l-preserved
loop-l-preserved c =
    let P : List ℕ → Type 0 = λ xs. Found c.args.assumed.now c.args.trail.now.lits c.args.seen.now c.args.failed (c.loop-l.l-index + 1) xs in
    elim c.if-is_wanted.branch [
      | then-is_wanted+in_ok-push w ↦ subst P (sym (w.found-is ∙ w.in_ok-push.ensures.ok)) (Found-push _ _ _ _ _ _ c.loop-l.invariant c.l-item.result c.loop-l-test.true c.l-item.is)
      | else-is_wanted w ↦ subst P (sym w.found-is) (Found-skip _ _ _ _ _ _ c.loop-l.invariant c.l-item.result c.loop-l-test.true c.l-item.is (λ e. false≢true (w.if-is_wanted.ensures.failed e)) (λ k kl e q. false≢true (w.if-is_wanted.ensures.marked k kl e q)))
    ]
