use Rattle.std.proofs.Common.{◌<◌, ◌+◌, ◌∙◌, Ok, Err, length, get_or, ap, arith}
use Rattle.std.proofs.lemmas.Result.{err_from_is_err_and}
use Rattle.gi_net.specs.Leads.{none}
use Rattle.gi_net.proofs.Leading.{leads_both}
use Rattle.gi_batch.proofs.Filing.{done_none, items_fail, items_more}
use Rattle.gi_batch.proofs.steps.solve_icnf.Goals as goal

pub loop-item-init : goal.loop-item-init
loop-item-init g c = (none, done_none c.args.budget _ _ _)

pub loop-item-preserved : goal.loop-item-preserved
loop-item-preserved g c =
    let lt : c.loop-item.item-index < length c.args.icnf.now.items = omega (arith, ap length c.as_slice-item-items.ensures) in (
      leads_both g.C.Caller.kept _ _ _ c.loop-item.invariant.0 c.in_ok-last.ensures.led,
      items_more (Ok c.in_ok-last.last) c.args.budget c.args.icnf.now.items c.loop-item.item-index _ _ _ _ _ _ _ _ c.loop-item.last lt (c.item-item.is ∙ ap (λ xs. get_or xs c.loop-item.item-index c.item-item.result) c.as_slice-item-items.ensures) c.loop-item.invariant.1 c.in_ok-last.ensures.goes,
    )

pub returns-in_err-last-clause-goes : goal.returns-in_err-last-clause-goes
returns-in_err-last-clause-goes g c =
    let p = err_from_is_err_and c.from_residual.result c.from_residual.ensures.1 in
    let lt : c.loop-item.item-index < length c.args.icnf.now.items = omega (arith, ap length c.as_slice-item-items.ensures) in
    rw (p.1, p.2) (
    items_fail c.in_err-last.field-0.0 c.args.budget c.args.icnf.now.items (c.loop-item.item-index + 1) _ _ _ _
    (items_more (Err c.in_err-last.field-0.0) c.args.budget c.args.icnf.now.items c.loop-item.item-index _ _ _ _ _ _ _ _ c.loop-item.last lt (c.item-item.is ∙ ap (λ xs. get_or xs c.loop-item.item-index c.item-item.result) c.as_slice-item-items.ensures) c.loop-item.invariant.1 c.in_err-last.ensures.goes))

pub returns-in_err-last-clause-led : goal.returns-in_err-last-clause-led
returns-in_err-last-clause-led g c = leads_both g.C.Caller.kept _ _ _ c.loop-item.invariant.0 c.in_err-last.ensures.led
