use Rattle.std.proofs.Common.{◌<◌, arith}
use Rattle.gi_cdcl.proofs.Queues.{next_within}
use Rattle.gi_cdcl.proofs.varlist.VarList.next.Goals as goal

pub overflow_cast-result : goal.overflow_cast-result
overflow_cast-result c =
    let lt : c.in-Some.node < c.self.inside.count = next_within c.self.inside.chains c.self.inside.count c.from.result c.in-Some.node c.self.invariant (omega (arith, c.from.ensures, c.requires, c.self.view_is)) c.in-Some.ensures.linked in
    let s = c.self.invariant.small in omega (arith, lt, s)

pub returns-in-Some : goal.returns-in-Some
returns-in-Some c =
    let lt : c.in-Some.node < c.self.inside.count = next_within c.self.inside.chains c.self.inside.count c.from.result c.in-Some.node c.self.invariant (omega (arith, c.from.ensures, c.requires, c.self.view_is)) c.in-Some.ensures.linked in
    omega (arith, lt, c.self.view_is)
