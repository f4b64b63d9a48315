use Rattle.std.proofs.Common.{subst, ap, ◌∙◌, [], ◌≡◌}
use Rattle.std.proofs.lemmas.List.{append-nil}
use Rattle.gi_dimacs.specs.Files.{read_file}
use Rattle.gi_dimacs.specs.Machine.{run}
use Rattle.gi_dimacs.specs.Answers.{TellsCnf}
use Rattle.gi_dimacs.specs.Reader.{reads}
use Rattle.gi_dimacs.proofs.reader.Reader.finish.Goals as goal

pub returns-clause-read : goal.returns-clause-read
unfolding reads run
returns-clause-read c = λ format bytes has.
    let all : reads c.args.self [] ≡ read_file format bytes = has.each [] ∙ ap (read_file format) (append-nil bytes) in
    subst (λ r. TellsCnf c.read_off.result r) (ap (λ r. reads r []) c.self.view_is ∙ all) c.read_off.ensures.read
