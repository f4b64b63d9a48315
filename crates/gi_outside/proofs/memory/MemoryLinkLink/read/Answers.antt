use Rattle.std.proofs.Common.{Some, take, drop, ap, ◌∙◌}
use Rattle.gi_outside.proofs.Tape.{read_takes}
use Rattle.gi_outside.proofs.memory.MemoryLinkLink.read.Goals as goal

pub returns-in-Ok-clause-rest : goal.returns-in-Ok-clause-rest
returns-in-Ok-clause-rest c =
    ap Some (read_takes c.args.self.now.input c.copy_front.new.into c.args.self.now.at c.size_of_read-n.result
    (c.copy_front.ensures ∙ ap (take c.size_of_read-n.result) (c.skip-rest.ensures.value ∙ ap (drop c.args.self.now.at) c.as_slice.ensures)))
