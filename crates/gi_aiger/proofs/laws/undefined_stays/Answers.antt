use Rattle.gi_aiger.proofs.Marking.{hopeless}
use Rattle.gi_aiger.proofs.laws.undefined_stays.Goals as goal

pub returns : goal.returns
returns c = hopeless
