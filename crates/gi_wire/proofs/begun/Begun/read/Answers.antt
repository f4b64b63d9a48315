use Rattle.gi_wire.proofs.begun.Begun.read.Goals as goal

pub returns-in-Call : goal.returns-in-Call
returns-in-Call c = (record { few = c.requires.few; ends = c.requires.ends; asks = c.in-Call.ensures.0 }, c.in-Call.ensures.1)

pub returns-in-Load : goal.returns-in-Load
returns-in-Load c = (record { few = c.requires.few; ends = c.requires.ends; asks = c.in-Load.ensures.0 }, c.in-Load.ensures.1)

pub returns-in-Syntax : goal.returns-in-Syntax
returns-in-Syntax c = record { few = c.requires.few; ends = c.requires.ends; asks = c.in-Syntax.ensures }
