use Rattle.std.proofs.Common.{subst, ap, sym, ◌∙◌, [], ◌≡◌}
use Rattle.std.proofs.lemmas.List.{append-nil}
use Rattle.gi_aiger.specs.Files.{read_file, Told}
use Rattle.gi_aiger.specs.Levels.{IsDistinct}
use Rattle.gi_aiger.specs.Machine.{answer}
use Rattle.gi_aiger.specs.Answers.{TellsAig, read_aig}
use Rattle.gi_aiger.specs.Reader.{reads}
use Rattle.gi_aiger.proofs.Runs.{run-nil}
use Rattle.gi_aiger.proofs.Apart.{gates_apart}
use Rattle.gi_aiger.proofs.Ending.{answer_said, reads_it}
use Rattle.gi_aiger.proofs.reader.AigReader.finish.Goals as goal

pub returns-clause-said : goal.returns-clause-said
unfolding reads
returns-clause-said c = λ bytes has.
    let all : reads c.args.self [] ≡ read_file bytes = has.each [] ∙ ap read_file (append-nil bytes) in
    let now : answer c.self.inside.machine ≡ read_file bytes = ap answer (sym (run-nil c.self.inside.machine)) ∙ ap (λ r. reads r []) c.self.view_is ∙ all in
    answer_said c.read_off.result bytes (subst (λ (t : Told). TellsAig c.read_off.result t) now (c.read_off.ensures (subst (λ (t : Told). IsDistinct t.gates) (sym now) (gates_apart bytes))))

pub returns-clause-read : goal.returns-clause-read
unfolding reads
returns-clause-read c = λ bytes has.
    let all : reads c.args.self [] ≡ read_file bytes = has.each [] ∙ ap read_file (append-nil bytes) in
    let now : answer c.self.inside.machine ≡ read_file bytes = ap answer (sym (run-nil c.self.inside.machine)) ∙ ap (λ r. reads r []) c.self.view_is ∙ all in
    subst (λ (t : Told). TellsAig c.read_off.result t) now (c.read_off.ensures (subst (λ (t : Told). IsDistinct t.gates) (sym now) (gates_apart bytes)))

pub returns-clause-aig : goal.returns-clause-aig
unfolding reads read_aig
returns-clause-aig c = λ bytes has.
    let all : reads c.args.self [] ≡ read_file bytes = has.each [] ∙ ap read_file (append-nil bytes) in
    let now : answer c.self.inside.machine ≡ read_file bytes = ap answer (sym (run-nil c.self.inside.machine)) ∙ ap (λ r. reads r []) c.self.view_is ∙ all in
    reads_it c.read_off.result (read_file bytes) (gates_apart bytes) (subst (λ (t : Told). TellsAig c.read_off.result t) now (c.read_off.ensures (subst (λ (t : Told). IsDistinct t.gates) (sym now) (gates_apart bytes))))
