use Rattle.gi_text.proofs.Spellings.{number-signed_decimal}
use Rattle.gi_text.proofs.laws.spellings_are_read.Goals as goal

pub returns : goal.returns
returns c = number-signed_decimal
