use Rattle.std.proofs.Common.{sym, ◌∙◌}
use Rattle.gi_wire.proofs.ReadBack.{is_bad}
use Rattle.gi_wire.proofs.Telling.{is_told}
use Rattle.gi_wire.proofs.told.tell.Goals as goal

pub returns-in-Some : goal.returns-in-Some
returns-in-Some c = λ bytes e. is_told bytes c.in-Some.line c.in-Some.reply (sym e ∙ c.in-Some.is)

pub returns-in-None : goal.returns-in-None
returns-in-None c = λ bytes e. is_bad bytes (sym e ∙ c.in-None.is)
