use Rattle.gi_aiger_binary.proofs.Keeping.{meaning_stays}
use Rattle.gi_aiger_binary.proofs.laws.meaning_stays.Goals as goal

pub returns : goal.returns
returns c = meaning_stays
