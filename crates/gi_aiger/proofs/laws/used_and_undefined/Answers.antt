use Rattle.gi_aiger.proofs.Knowing.{used_undefined}
use Rattle.gi_aiger.proofs.laws.used_and_undefined.Goals as goal

pub returns : goal.returns
returns c = used_undefined
