use Rattle.gi_aiger_binary.proofs.Reread.{numbered_well}
use Rattle.gi_aiger_binary.proofs.laws.values_are_numbered.Goals as goal

pub returns : goal.returns
returns c = numbered_well
