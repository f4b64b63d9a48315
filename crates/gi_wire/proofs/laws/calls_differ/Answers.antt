use Rattle.gi_wire.proofs.CallsBack.{apart}
use Rattle.gi_wire.proofs.laws.calls_differ.Goals as goal

pub returns : goal.returns
returns c = apart
