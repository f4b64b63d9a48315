use Rattle.std.proofs.Common.{ap, sym, ◌∙◌, ◌++◌, append_assoc}
use Rattle.gi_dimacs.specs.Files.{read_file}
use Rattle.gi_dimacs.specs.Machine.{run, answer}
use Rattle.gi_dimacs.specs.Reader.{reads}
use Rattle.gi_dimacs.proofs.WholeTexts.{run-append}
use Rattle.gi_dimacs.proofs.reader.Reader.feed.Goals as goal

pub returns-in-Ok-clause-ok : goal.returns-in-Ok-clause-ok
unfolding reads
returns-in-Ok-clause-ok c = λ format bytes has. record {
  each = λ more.
      ap (λ m. answer (run m more)) c.in-Ok.ensures.ok ∙ ap answer (sym (run-append c.self.inside.machine c.args.piece.now more)) ∙ ap (λ r. reads r (c.args.piece.now ++ more)) c.self.view_is
      ∙ has.each (c.args.piece.now ++ more) ∙ ap (read_file format) (sym (append_assoc bytes c.args.piece.now more));
}
