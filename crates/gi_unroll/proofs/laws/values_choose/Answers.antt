use Rattle.gi_unroll.proofs.Chosen.{values_choose}
use Rattle.gi_unroll.proofs.laws.values_choose.Goals as goal

pub returns : goal.returns
returns c = values_choose
