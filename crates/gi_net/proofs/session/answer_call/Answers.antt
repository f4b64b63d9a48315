use Rattle.gi_net.proofs.Telling.{entry_told, unentered_told}
use Rattle.std.proofs.Common.{refl}
use Rattle.gi_net.proofs.session.answer_call.Goals as goal

pub returns-in-Recorded-clause-item : goal.returns-in-Recorded-clause-item
returns-in-Recorded-clause-item g c = entry_told _ c.tell.result c.args.line c.args.call _ c.reply.result.now _ _ _ _ c.requires c.in-Recorded.ensures.makes c.reply.ensures c.tell.ensures

pub returns-in-NoMemory-clause-item : goal.returns-in-NoMemory-clause-item
returns-in-NoMemory-clause-item g c = unentered_told c.tell_no_memory.result c.args.line c.args.call _ _ _ _ c.in-NoMemory.ensures.makes.0 (c.in-NoMemory.ensures.cause refl) c.tell_no_memory.ensures
