use Rattle.std.proofs.Common.{◌≡◌, ◌/◌, get_or, sym, ap, ◌∙◌, arith}
use Rattle.std.proofs.lemmas.List.{take_all}
use Rattle.gi_lit.specs.Problem.{top}
use Rattle.gi_lit.proofs.Tops.{top-nil, top-take, top_bounds}
use Rattle.gi_lit.proofs.top.top_variable.Goals as goal
use Rattle.gi_lit.proofs.top.top_variable.Goals.{then-greatest-v, else-greatest-v}

pub loop-l-init : goal.loop-l-init
loop-l-init c = (sym top-nil, omega arith)

pub loop-l-preserved : goal.loop-l-preserved
loop-l-preserved c =
    let more = top-take c.args.lits.now c.loop-l.l-index c.l-item.result c.loop-l-test.true in
    let now : get_or c.args.lits.now c.loop-l.l-index c.l-item.result / 2 ≡ c.index-v.result = ap (λ n. n / 2) (sym c.l-item.is) ∙ (sym c.var.ensures ∙ sym c.index-v.ensures.value) in
    elim c.if-greatest-v.branch [ then-greatest-v w ↦ (omega arith, omega arith) | else-greatest-v w ↦ (omega arith, omega arith) ]

pub returns-clause-within : goal.returns-clause-within
returns-clause-within c =
    let whole : c.loop-l.greatest ≡ top c.args.lits.now = c.loop-l.invariant.0 ∙ ap top (take_all c.loop-l.l-index c.args.lits.now (omega arith)) in
    rw whole (top_bounds c.args.lits.now)
