use Rattle.std.proofs.Common.{arith}
use Rattle.gi_cdcl.proofs.Queues.{worded}
use Rattle.gi_cdcl.proofs.varlist.VarList.set_phase.Goals as goal

pub set_word-requires : goal.set_word-requires
set_word-requires c = let n = c.self.invariant.nodes in omega (arith, c.from.ensures, c.requires, c.self.view_is, n)

pub invariant_of-self : goal.invariant_of-self
invariant_of-self c = worded c.self.inside.chains c.set_word.new.self c.self.inside.count c.from.result c.word.result c.self.invariant c.set_word.ensures.after c.set_word.ensures.apart
