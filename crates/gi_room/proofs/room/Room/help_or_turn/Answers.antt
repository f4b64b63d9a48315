use Rattle.gi_room.proofs.Helping.{helps_done}
use Rattle.gi_room.proofs.room.Room.help_or_turn.Goals as goal

pub returns-in-Live : goal.returns-in-Live
returns-in-Live g c = helps_done c.help-reply.result c.args.pass.now c.help-reply.new.pass c.requires.left c.help-reply.ensures.helps
