use Rattle.gi_drill.proofs.Reading.{script_short}
use Rattle.gi_drill.proofs.laws.script_is_short.Goals as goal

pub returns : goal.returns
returns c = script_short
