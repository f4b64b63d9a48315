use Rattle.gi_aiger_binary.proofs.Reread.{numbered_good}
use Rattle.gi_aiger_binary.proofs.laws.numbered_is_good.Goals as goal

pub returns : goal.returns
returns c = numbered_good
