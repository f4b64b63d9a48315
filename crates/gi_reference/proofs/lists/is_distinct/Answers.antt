use Rattle.std.proofs.Common.{◌≡◌, take, sym, ap, ◌∙◌}
use Rattle.std.proofs.lemmas.List.{get_or_read}
use Rattle.gi_lit.specs.Problem.{has}
use Rattle.gi_reference.proofs.Deciding.{no}
use Rattle.gi_reference.proofs.Leaving.{distinct_more, not_distinct}
use Rattle.gi_reference.proofs.lists.is_distinct.Goals as goal

pub returns-then-has_before : goal.returns-then-has_before
returns-then-has_before c =
    let e = get_or_read c.args.lits.now c.loop-i.i c.index-lits-i.result c.loop-i-test.true c.index-lits-i.is 0 in
    no (not_distinct c.args.lits.now c.loop-i.i c.loop-i-test.true (ap (has (take c.loop-i.i c.args.lits.now)) (sym e) ∙ sym c.if-has_before.ensures))

pub loop-i-preserved : goal.loop-i-preserved
loop-i-preserved c =
    let e = get_or_read c.args.lits.now c.loop-i.i c.index-lits-i.result c.loop-i-test.true c.index-lits-i.is 0 in
    distinct_more c.args.lits.now c.loop-i.i c.loop-i-test.true (ap (has (take c.loop-i.i c.args.lits.now)) (sym e) ∙ sym c.if-has_before.ensures) c.loop-i.invariant
