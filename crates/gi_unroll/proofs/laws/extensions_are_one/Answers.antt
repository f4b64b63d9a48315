use Rattle.gi_unroll.proofs.Extensions.{one_extension}
use Rattle.gi_unroll.proofs.laws.extensions_are_one.Goals as goal

pub returns : goal.returns
returns c = one_extension
