use Rattle.std.proofs.Common.{◌≡◌, ◌<◌, ◌≤◌, ◌+◌, ◌++◌, ◌∷◌, [], ℕ, length, replicate, take, false, sym, ap, ◌∙◌, subst, arith}
use Rattle.std.specs.List.{All}
use Rattle.std.proofs.lemmas.List.{get_or_read, length-replicate, take_all, take_more}
use Rattle.std.proofs.lemmas.List.Elements.{All-get_or, All-weaker}
use Rattle.gi_kept.proofs.Marking.{marked_is, marked_more, marked_none}
use Rattle.gi_kept.proofs.marks.Marks.of_vars.Goals as goal

below : (n m : ℕ) → m ≡ n + 1 → (x : ℕ) → x ≤ n → x < m
below n m e x h = omega arith

pub loop-v-init : goal.loop-v-init
loop-v-init c =
    let n = c.greatest.result + 1 in
    rw c.in_ok-marks.ensures (record { marked = marked_none n; size = All-weaker (λ x. x ≤ c.greatest.result) (λ x. x < length (replicate n false)) (below c.greatest.result (length (replicate n false)) (length-replicate n false)) c.args.vars.now c.greatest.ensures.within })

pub loop-v-preserved : goal.loop-v-preserved
loop-v-preserved c =
    let at = get_or_read c.args.vars.now c.loop-v.v-index c.v-item.result c.loop-v-test.true c.v-item.is 0 in
    record {
      marked = marked_is c.mark.new.self _ _ (ap (λ x. take c.loop-v.v-index c.args.vars.now ++ x ∷ []) (c.index.ensures.value ∙ at) ∙ sym (take_more c.args.vars.now c.loop-v.v-index 0 c.loop-v-test.true))
          (marked_more c.loop-v.marks c.mark.new.self (take c.loop-v.v-index c.args.vars.now) c.index.result c.loop-v.invariant.marked c.mark.ensures.each);
      size = subst (λ n. All (λ x. x < n) c.args.vars.now) (sym c.mark.ensures.len) c.loop-v.invariant.size;
    }

pub mark-requires : goal.mark-requires
mark-requires c =
    let low : c.v-item.result < length c.loop-v.marks = subst (λ x. x < length c.loop-v.marks) (sym (get_or_read c.args.vars.now c.loop-v.v-index c.v-item.result c.loop-v-test.true c.v-item.is 0)) (All-get_or (λ x. x < length c.loop-v.marks) c.args.vars.now c.loop-v.v-index 0 c.loop-v-test.true c.loop-v.invariant.size) in
    omega (arith, c.index.ensures.value)

pub returns : goal.returns
returns c = marked_is c.loop-v.marks _ _ (take_all c.loop-v.v-index c.args.vars.now (omega arith)) c.loop-v.invariant.marked
