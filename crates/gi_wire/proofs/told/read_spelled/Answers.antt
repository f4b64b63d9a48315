use Rattle.std.proofs.Common.{sym}
use Rattle.gi_wire.proofs.Spelled.{literal_none}
use Rattle.gi_wire.proofs.told.read_spelled.Goals as goal

pub returns-in-None : goal.returns-in-None
returns-in-None c = sym (literal_none c.args.field.now (sym c.in-None.ensures))
