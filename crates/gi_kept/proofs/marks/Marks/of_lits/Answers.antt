use Rattle.std.proofs.Common.{◌/◌, ◌≤◌, ◌+◌, ◌*◌, take, false, sym, ap, ◌∙◌, subst, ◌++◌, ◌∷◌, [], arith}
use Rattle.std.proofs.lemmas.List.{get_or_read, length-replicate, take_all, take_more}
use Rattle.std.proofs.lemmas.List.Elements.{All-get_or}
use Rattle.gi_lit.specs.Problem.{top}
use Rattle.gi_lit.proofs.Tops.{top_bounds}
use Rattle.gi_kept.proofs.Marking.{marked_is, marked_more, marked_none}
use Rattle.gi_kept.proofs.marks.Marks.of_lits.Goals as goal

pub loop-l-init : goal.loop-l-init
loop-l-init c =
    let n = 2 * c.top_variable.result + 2 in
    rw c.in_ok-marks.ensures (record { marked = marked_none n; size = length-replicate n false ∙ ap (λ t. 2 * t + 2) c.top_variable.ensures.value })

pub loop-l-preserved : goal.loop-l-preserved
loop-l-preserved c =
    let at = get_or_read c.args.lits.now c.loop-l.l-index c.l-item.result c.loop-l-test.true c.l-item.is 0 in
    record {
      marked = marked_is c.mark.new.self _ _ (ap (λ x. take c.loop-l.l-index c.args.lits.now ++ x ∷ []) (c.code.ensures.value ∙ at) ∙ sym (take_more c.args.lits.now c.loop-l.l-index 0 c.loop-l-test.true))
          (marked_more c.loop-l.marks c.mark.new.self (take c.loop-l.l-index c.args.lits.now) c.code.result c.loop-l.invariant.marked c.mark.ensures.each);
      size = c.mark.ensures.len ∙ c.loop-l.invariant.size;
    }

pub mark-requires : goal.mark-requires
mark-requires c =
    let low : c.l-item.result / 2 ≤ top c.args.lits.now = subst (λ x. x / 2 ≤ top c.args.lits.now) (sym (get_or_read c.args.lits.now c.loop-l.l-index c.l-item.result c.loop-l-test.true c.l-item.is 0)) (All-get_or (λ x. x / 2 ≤ top c.args.lits.now) c.args.lits.now c.loop-l.l-index 0 c.loop-l-test.true (top_bounds c.args.lits.now)) in
    omega (arith, c.loop-l.invariant.size, c.code.ensures.value)

pub returns : goal.returns
returns c = marked_is c.loop-l.marks _ _ (take_all c.loop-l.l-index c.args.lits.now (omega arith)) c.loop-l.invariant.marked
