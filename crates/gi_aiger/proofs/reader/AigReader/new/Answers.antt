use Rattle.std.proofs.Common.{ap, ◌∙◌}
use Rattle.gi_aiger.specs.Machine.{run, answer}
use Rattle.gi_aiger.specs.Reader.{reads}
use Rattle.gi_aiger.proofs.Following.{reads_all}
use Rattle.gi_aiger.proofs.reader.AigReader.new.Goals as goal

pub returns-clause-nothing : goal.returns-clause-nothing
unfolding reads
returns-clause-nothing c = record { each = λ bytes. ap (λ m. answer (run m bytes)) c.new_machine.ensures.start ∙ reads_all c.args.alloc bytes }
