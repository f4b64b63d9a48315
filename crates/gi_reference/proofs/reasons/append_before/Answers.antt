use Rattle.std.proofs.Common.{rules, ◌≡◌, ◌==◌, ◌++◌, ◌∷◌, [], not, ℕ, List, take, ap, sym, ◌∙◌, append_assoc, arith}
use Rattle.std.proofs.lemmas.List.{get_or_read, take_more}
use Rattle.gi_model.proofs.Keeping.{append-nil}
use Rattle.gi_reference.proofs.Explaining.{while_more, while_stops, while_ends}
use Rattle.gi_reference.proofs.reasons.append_before.Goals as goal

pub loop-l-init : goal.loop-l-init
loop-l-init c = record { put = sym (append-nil c.args.to.now); front = search rules }

pub returns-then-is_equal : goal.returns-then-is_equal
returns-then-is_equal c =
    let is = get_or_read c.args.lits.now c.loop-l.l-index c.l-item.result c.loop-l-test.true c.l-item.is 0 in
    c.loop-l.invariant.put ∙ ap (λ ls. c.args.to.now ++ ls) (while_stops (λ x. not (x == c.args.m)) c.args.lits.now c.loop-l.l-index c.l-item.result c.loop-l-test.true is (ap not (sym c.if-is_equal.ensures)) c.loop-l.invariant.front)

pub loop-l-preserved : goal.loop-l-preserved
loop-l-preserved c =
    let is = get_or_read c.args.lits.now c.loop-l.l-index c.l-item.result c.loop-l-test.true c.l-item.is 0 in
    record {
      put = c.in_ok-push.ensures.ok ∙ ap (λ xs. xs ++ c.l-item.result ∷ []) c.loop-l.invariant.put ∙ append_assoc c.args.to.now (take c.loop-l.l-index c.args.lits.now) (c.l-item.result ∷ []) ∙ ap (λ xs. c.args.to.now ++ xs) (ap (λ z. take c.loop-l.l-index c.args.lits.now ++ z ∷ []) is ∙ sym (take_more c.args.lits.now c.loop-l.l-index 0 c.loop-l-test.true));
      front = while_more (λ x. not (x == c.args.m)) c.args.lits.now c.loop-l.l-index c.l-item.result c.loop-l-test.true is (ap not (sym c.if-is_equal.ensures)) c.loop-l.invariant.front;
    }

pub returns : goal.returns
returns c = c.loop-l.invariant.put ∙ ap (λ ls. c.args.to.now ++ ls) (while_ends (λ x. not (x == c.args.m)) c.args.lits.now c.loop-l.l-index (omega arith) c.loop-l.invariant.front)
