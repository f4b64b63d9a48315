use Rattle.std.proofs.Common.{rules}
use Rattle.gi_drill.proofs.Texts.{script_text_is}
use Rattle.gi_drill.proofs.script.write_script.Goals as goal

pub returns : goal.returns
returns c = search (rules, script_text_is)
