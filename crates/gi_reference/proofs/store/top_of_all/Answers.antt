use Rattle.std.proofs.Common.{◌≡◌, arith}
use Rattle.gi_lit.specs.Problem.{top}
use Rattle.gi_reference.proofs.Loading.{tops_more}
use Rattle.gi_reference.proofs.store.top_of_all.Goals as goal

pub loop-clause-preserved : goal.loop-clause-preserved
loop-clause-preserved c =
    let t : c.top_variable.result ≡ top c.clause-item.result = rw c.as_slice.ensures at c.top_variable.ensures.value in
    omega (arith, tops_more c.args.clauses.now c.loop-clause.clause-index c.clause-item.result c.loop-clause-test.true c.clause-item.is, t, c.max-top.ensures, c.loop-clause.invariant)
