use Rattle.gi_aiger_binary.proofs.Deserved.{good_writable}
use Rattle.gi_aiger_binary.proofs.laws.good_is_writable.Goals as goal

pub returns : goal.returns
returns c = good_writable
