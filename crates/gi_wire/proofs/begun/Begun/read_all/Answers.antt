use Rattle.gi_wire.proofs.Joining.{holds_none}
use Rattle.gi_wire.proofs.begun.Begun.read_all.Goals as goal

pub invariant_of-self : goal.invariant_of-self
invariant_of-self c = holds_none c.clear.new.self c.self.inside.size c.clear.ensures c.self.invariant.few
