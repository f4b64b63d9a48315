use Rattle.std.proofs.Common.{arith}
use Rattle.gi_cdcl.proofs.varlist.VarList.phase.Goals as goal

pub word-requires : goal.word-requires
word-requires c = let n = c.self.invariant.nodes in omega (arith, c.from.ensures, c.requires, c.self.view_is, n)
