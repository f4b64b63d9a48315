use Rattle.gi_call.proofs.Exactly.{exact}
use Rattle.gi_call.proofs.laws.done_is_exact.Goals as goal

pub returns : goal.returns
returns c = exact
