use Rattle.gi_wire.proofs.ReadBack.{differ}
use Rattle.gi_wire.proofs.laws.answers_differ.Goals as goal

pub returns : goal.returns
returns c = differ
