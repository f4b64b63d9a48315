use Rattle.gi_wire.proofs.Staying.{stay}
use Rattle.gi_wire.proofs.laws.items_stay.Goals as goal

pub returns : goal.returns
returns c = stay
