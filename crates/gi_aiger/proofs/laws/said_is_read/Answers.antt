use Rattle.gi_aiger.proofs.Accepting.{said_read}
use Rattle.gi_aiger.proofs.laws.said_is_read.Goals as goal

pub returns : goal.returns
returns c = said_read
