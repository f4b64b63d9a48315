use Rattle.gi_aiger.proofs.Deserving.{said_good}
use Rattle.gi_aiger.proofs.laws.said_is_good.Goals as goal

pub returns : goal.returns
returns c = said_good
