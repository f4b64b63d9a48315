use Rattle.gi_text.proofs.Splits.{fed_fed}
use Rattle.gi_text.proofs.laws.cuts_do_not_matter.Goals as goal

pub returns : goal.returns
returns c = fed_fed
