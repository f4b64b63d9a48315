use Rattle.std.proofs.Common.{ℕ, ◌+◌, sym, subst, arith}
use Rattle.std.proofs.lemmas.List.{get_or_read}
use Rattle.gi_reference.proofs.Deciding.{not_so}
use Rattle.gi_reference.proofs.Leaving.{HasMet, met_more, unmet_more, met_all}
use Rattle.gi_reference.proofs.lists.is_sublist.Goals as goal
use Rattle.gi_reference.proofs.lists.is_sublist.Goals.{then-is_at, else-is_at}

pub loop-l-init : goal.loop-l-init
loop-l-init c = record { within = omega arith; same = (λ h. h, λ h. h) }

pub loop-l-preserved : goal.loop-l-preserved
loop-l-preserved c =
    let e = get_or_read c.args.whole.now c.loop-l.l-index c.l-item.result c.loop-l-test.true c.l-item.is 0 in
    elim c.if-is_at.branch [
      | then-is_at w ↦ subst (λ k. HasMet c.args.part.now c.args.whole.now k (c.loop-l.l-index + 1)) (sym w.met-is)
          (met_more c.args.part.now c.args.whole.now c.loop-l.met c.loop-l.l-index c.l-item.result c.loop-l-test.true e c.loop-l.invariant (c.is_at.ensures.0 w.if-is_at.true))
      | else-is_at w ↦ subst (λ k. HasMet c.args.part.now c.args.whole.now k (c.loop-l.l-index + 1)) (sym w.met-is)
          (unmet_more c.args.part.now c.args.whole.now c.loop-l.met c.loop-l.l-index c.l-item.result c.loop-l-test.true e c.loop-l.invariant (not_so c.is_at.result c.is_at.ensures (sym w.if-is_at.false)))
    ]

pub returns : goal.returns
returns c = met_all c.args.part.now c.args.whole.now c.loop-l.met c.loop-l.l-index c.loop-l.invariant (omega arith)
