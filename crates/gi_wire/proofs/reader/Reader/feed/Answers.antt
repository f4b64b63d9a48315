use Rattle.std.proofs.Common.{ap, ◌∙◌}
use Rattle.gi_wire.specs.Source.{Source}
use Rattle.gi_wire.proofs.Sources.{fed_apart, fed_count, fed_holds, source_fed, source_of}
use Rattle.gi_wire.proofs.reader.Reader.feed.Goals as goal

pub invariant_of-self-2 : goal.invariant_of-self-2
invariant_of-self-2 c = (fed_holds c.self.inside.lines c.feed.new.self c.args.piece.now c.self.invariant.0 c.in_ok-feed.ensures.ok, fed_apart c.self.inside.lines c.feed.new.self c.args.piece.now c.self.inside.load c.self.invariant.1 c.in_ok-feed.ensures.ok)

pub returns-clause-ok : goal.returns-clause-ok
returns-clause-ok c = source_fed c.args.self.now _ c.self.inside.lines c.args.piece.now (ap (λ (s : Source). s.lines) c.self.view_is) c.in_ok-feed.ensures.ok (ap (λ (s : Source). s.line) c.self.view_is) (ap (λ (s : Source). s.joined) c.self.view_is) (ap (λ (s : Source). s.load) c.self.view_is) c.self.invariant.0
    (λ l h. c.self.invariant.1.not_long l (ap (λ (s : Source). s.load) c.self.view_is ∙ h))

pub returns-clause-count : goal.returns-clause-count
returns-clause-count c = fed_count c.args.self.now (source_of c.feed.new.self c.self.inside.line c.self.inside.begun c.self.inside.load) c.self.inside.lines c.args.piece.now (ap (λ (s : Source). s.lines) c.self.view_is) c.in_ok-feed.ensures.ok (ap (λ (s : Source). s.line) c.self.view_is) (ap (λ (s : Source). s.load) c.self.view_is)
