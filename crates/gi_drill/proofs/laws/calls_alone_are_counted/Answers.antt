use Rattle.gi_drill.proofs.Tallies.{calls_alone}
use Rattle.gi_drill.proofs.laws.calls_alone_are_counted.Goals as goal

pub returns : goal.returns
returns c = calls_alone
