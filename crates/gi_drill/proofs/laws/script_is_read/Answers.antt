use Rattle.gi_drill.proofs.Leaving.{bye_last}
use Rattle.gi_drill.proofs.Reading.{script_read}
use Rattle.gi_drill.proofs.laws.script_is_read.Goals as goal

pub returns : goal.returns
returns c = record { read = script_read; bye = bye_last }
