use Rattle.std.proofs.Common.{◌≡◌, ◌<◌, ℕ, List, length, get_or, ap, sym, ◌∙◌, subst}
use Rattle.gi_lit.specs.Problem.{with_clause}
use Rattle.gi_reference.proofs.Loading.{clauses_more}
use Rattle.gi_reference.proofs.store.Store.add_all.Goals as goal

pub loop-clause-preserved : goal.loop-clause-preserved
loop-clause-preserved c =
    let lt = subst (λ (cs : List (List ℕ)). c.loop-clause.clause-index < length cs) c.as_slice-clause-items.ensures c.loop-clause-test.true in
    let is = subst (λ (cs : List (List ℕ)). c.clause-item.result ≡ get_or cs c.loop-clause.clause-index c.clause-item.result) c.as_slice-clause-items.ensures c.clause-item.is in
    c.in_ok-add.ensures ∙ ap (with_clause c.clause-item.result) c.loop-clause.invariant ∙ sym (clauses_more c.args.clauses.now c.loop-clause.clause-index c.clause-item.result lt is c.args.self.now)
