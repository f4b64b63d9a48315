use Rattle.gi_host.proofs.Asking.{has_it}
use Rattle.gi_host.proofs.visitor.ask_first.Goals as goal

pub ask_stop-requires-clause-started : goal.ask_stop-requires-clause-started
ask_stop-requires-clause-started c = has_it c.args.started c.in-Some.serial c.args.pass.now.history c.in-Some.is c.requires.begun
