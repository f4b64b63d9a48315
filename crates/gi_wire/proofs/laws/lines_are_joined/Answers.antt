use Rattle.gi_wire.proofs.Staying.{cut_joined, joined}
use Rattle.gi_wire.proofs.laws.lines_are_joined.Goals as goal

pub returns : goal.returns
returns c = record { joined = joined; cut = cut_joined }
