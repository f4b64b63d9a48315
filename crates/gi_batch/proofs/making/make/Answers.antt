use Rattle.std.proofs.Common.{sym}
use Rattle.gi_batch.proofs.Growing.{made_entry}
use Rattle.gi_batch.proofs.Doing.{fails_after}
use Rattle.gi_batch.proofs.making.make.Goals as goal

pub returns-in-Some-clause-made : goal.returns-in-Some-clause-made
returns-in-Some-clause-made g c = fails_after c.reply.result.now c.in-Some.stop c.args.call _ _ (sym c.in-Some.ensures) (made_entry c.args.call _ c.reply.result.now _ _ c.requires c.in-Recorded.ensures.makes c.reply.ensures)
