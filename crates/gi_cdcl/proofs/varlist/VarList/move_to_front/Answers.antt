use Rattle.std.proofs.Common.{arith}
use Rattle.gi_cdcl.proofs.Queues.{linked_in, moved}
use Rattle.gi_cdcl.proofs.varlist.VarList.move_to_front.Goals as goal

pub move_to_front-requires : goal.move_to_front-requires
move_to_front-requires c = linked_in c.self.inside.chains c.self.inside.count c.from.result c.self.invariant (omega (arith, c.from.ensures, c.requires, c.self.view_is))

pub invariant_of-self : goal.invariant_of-self
invariant_of-self c = moved c.self.inside.chains c.move_to_front.new.self c.self.inside.count c.from.result c.self.invariant (omega (arith, c.from.ensures, c.requires, c.self.view_is)) c.move_to_front.ensures.after c.move_to_front.ensures.apart
