use Rattle.gi_wire.proofs.Joining.{short_front}
use Rattle.gi_wire.proofs.reader.take_front.Goals as goal

pub take-taken-requires : goal.take-taken-requires
take-taken-requires c = short_front c.args.n c.args.lines.now.left c.front.result.now c.front.ensures c.requires.short
