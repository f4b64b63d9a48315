use Rattle.gi_call.proofs.Exactly.{said}
use Rattle.gi_call.proofs.laws.undisturbed_is_said.Goals as goal

pub returns : goal.returns
returns c = said
