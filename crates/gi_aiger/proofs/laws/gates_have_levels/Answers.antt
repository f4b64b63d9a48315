use Rattle.gi_aiger.proofs.Resolving.{gates_have_levels}
use Rattle.gi_aiger.proofs.laws.gates_have_levels.Goals as goal

pub returns : goal.returns
returns c = gates_have_levels
