use Rattle.std.proofs.Common.{◌<◌, [], length, sym, ◌∙◌, arith}
use Rattle.std.proofs.lemmas.Bool.{not-true, not-false, eqb-true, eqb-false}
use Rattle.gi_prop.proofs.Seeking.{waits_for, same_more, single_all}
use Rattle.gi_prop.proofs.look.unwatched_list.Goals as goal

pub returns-then-ne : goal.returns-then-ne
returns-then-ne c =
    let here : 0 < length c.args.clause.now = (let t = c.loop-l-test.true in omega arith) in
    waits_for [] c.args.clause.now _ _ c.loop-l-test.true c.l-item.is c.index-clause-0.result (0, here, sym c.index-clause-0.is) (eqb-false _ _ (not-true _ (sym c.if-ne.ensures)))

pub loop-l-preserved : goal.loop-l-preserved
loop-l-preserved c = same_more [] c.args.clause.now _ _ c.loop-l-test.true c.l-item.is c.index-clause-0.result c.loop-l.invariant (eqb-true _ _ (not-false _ (sym c.if-ne.ensures)))

pub returns : goal.returns
returns c =
    let ne = eqb-false (length c.args.clause.now) 0 (sym c.is_empty.ensures ∙ c.if-is_empty.false) in
    let here : 0 < length c.args.clause.now = omega arith in
    single_all c.args.clause.now _ c.index-clause-0.result c.loop-l-test.false (0, here, sym c.index-clause-0.is) c.loop-l.invariant
