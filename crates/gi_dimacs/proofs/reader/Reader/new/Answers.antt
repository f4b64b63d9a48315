use Rattle.std.proofs.Common.{ap, ◌∙◌}
use Rattle.gi_dimacs.specs.Machine.{run, answer}
use Rattle.gi_dimacs.specs.Reader.{reads}
use Rattle.gi_dimacs.proofs.WholeTexts.{reads_all}
use Rattle.gi_dimacs.proofs.reader.Reader.new.Goals as goal

pub returns-clause-nothing : goal.returns-clause-nothing
unfolding reads
returns-clause-nothing c = record { each = λ bytes. ap (λ m. answer (run m bytes)) c.new_machine.ensures ∙ reads_all c.args.alloc c.args.format bytes }
