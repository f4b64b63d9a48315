use Rattle.gi_prop.proofs.Adding.{added_derived}
use Rattle.gi_prop.proofs.laws.added_literals_are_derived.Goals as goal

pub returns : goal.returns
returns c = added_derived
