use Rattle.gi_aiger.proofs.Returning.{read_said}
use Rattle.gi_aiger.proofs.laws.read_is_said.Goals as goal

pub returns : goal.returns
returns c = read_said
