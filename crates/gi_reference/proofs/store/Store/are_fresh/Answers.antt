use Rattle.std.proofs.Common.{◌≡◌, ◌++◌, ◌∷◌, [], take, ap, ◌∙◌, sym, subst}
use Rattle.gi_reference.proofs.Deciding.{no, not_so}
use Rattle.gi_reference.proofs.Fresh.{IsNew, fresh_more, fresh_stops, learnt_more}
use Rattle.gi_reference.proofs.store.Store.are_fresh.Goals as goal

pub returns-then-not-learns : goal.returns-then-not-learns
returns-then-not-learns c =
    let known : c.as_slice.result.now ≡ c.args.known.now ++ take c.loop-clause.clause-index c.args.news.now = c.as_slice.ensures.value ∙ c.loop-clause.invariant.learnt in
    let n = not_so c.in_ok-learns.learns c.in_ok-learns.ensures (sym c.if-not-learns.true) in
    no (λ f. fresh_stops c.args.self.now c.args.known.now c.args.news.now c.loop-clause.clause-index c.clause-item.result c.loop-clause-test.true c.clause-item.is
    (λ h. n (subst (λ d. IsNew c.args.self.now d c.as_slice.result.now) (sym c.as_slice-in-loop-clause.ensures) (subst (IsNew c.args.self.now c.clause-item.result) (sym known) h))) (c.loop-clause.invariant.same.0 f))

pub loop-clause-preserved : goal.loop-clause-preserved
loop-clause-preserved c =
    let known : c.as_slice.result.now ≡ c.args.known.now ++ take c.loop-clause.clause-index c.args.news.now = c.as_slice.ensures.value ∙ c.loop-clause.invariant.learnt in
    let new = subst (IsNew c.args.self.now c.clause-item.result) known (subst (λ d. IsNew c.args.self.now d c.as_slice.result.now) c.as_slice-in-loop-clause.ensures (c.in_ok-learns.ensures.0 c.if-not-learns.false)) in
    let more = fresh_more c.args.self.now c.args.known.now c.args.news.now c.loop-clause.clause-index c.clause-item.result c.loop-clause-test.true c.clause-item.is new in
    record {
      learnt = c.in_ok-push_copy.ensures ∙ ap (λ cs. cs ++ c.clause-item.result ∷ []) c.loop-clause.invariant.learnt ∙ learnt_more c.args.self.now c.args.known.now c.args.news.now c.loop-clause.clause-index c.clause-item.result c.loop-clause-test.true c.clause-item.is;
      same = (λ a. more.0 (c.loop-clause.invariant.same.0 a), λ a. c.loop-clause.invariant.same.1 (more.1 a));
    }
