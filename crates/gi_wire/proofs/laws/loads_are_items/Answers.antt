use Rattle.gi_wire.proofs.Staying.{cuts, loads}
use Rattle.gi_wire.proofs.laws.loads_are_items.Goals as goal

pub returns : goal.returns
returns c = record { whole = loads; cut = cuts }
