use Rattle.gi_aiger.proofs.Resolving.{ok_order}
use Rattle.gi_aiger.proofs.gates.places_by_level.Goals as goal

pub returns : goal.returns
returns c = ok_order c.args.gates.now c.in_ok-nodes.nodes.items c.by_level.result c.requires c.in_ok-nodes.ensures (rw c.as_slice.ensures.value at c.by_level.ensures.order)
