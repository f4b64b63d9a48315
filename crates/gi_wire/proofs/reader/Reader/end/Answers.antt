use Rattle.std.proofs.Common.{ap, ◌∙◌}
use Rattle.gi_text.specs.Lines.{Kept}
use Rattle.gi_wire.specs.Source.{Source}
use Rattle.gi_wire.proofs.Sources.{source_same}
use Rattle.gi_wire.proofs.reader.Reader.end.Goals as goal

pub returns-clause-same : goal.returns-clause-same
returns-clause-same c = source_same c.args.self.now _ (ap (λ (k : Kept). k.left) c.end.ensures ∙ ap (λ (s : Source). s.lines.left) c.self.view_is) (ap (λ (s : Source). s.line) c.self.view_is) (ap (λ (s : Source). s.joined) c.self.view_is) (ap (λ (s : Source). s.load) c.self.view_is)
