use Rattle.gi_aiger.proofs.Resolving.{ok_found, ok_within}
use Rattle.gi_aiger.proofs.gates.first_cycle.Goals as goal

pub returns-clause-within : goal.returns-clause-within
returns-clause-within c = ok_within c.args.gates.now c.in_ok-nodes.nodes.items c.first_cycle.result c.in_ok-nodes.ensures (rw c.as_slice.ensures.value at c.first_cycle.ensures)

pub returns-clause-cycle : goal.returns-clause-cycle
returns-clause-cycle c = λ d. ok_found c.args.gates.now c.in_ok-nodes.nodes.items c.first_cycle.result c.in_ok-nodes.ensures d (rw c.as_slice.ensures.value at c.first_cycle.ensures)
