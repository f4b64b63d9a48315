use Rattle.gi_net.proofs.Completing.{whole}
use Rattle.gi_net.proofs.laws.undisturbed_is_whole.Goals as goal

pub returns : goal.returns
returns c = whole
