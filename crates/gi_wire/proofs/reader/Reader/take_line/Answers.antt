use Rattle.std.proofs.Common.{◌≡◌, ◌<◌, length, None, ap, sym, ◌∙◌, arith, subst, refl, MatchOption}
use Rattle.gi_text.specs.Given.{IsLine}
use Rattle.gi_text.specs.Lines.{Kept}
use Rattle.gi_wire.specs.declared.reader.RequestKind.TheVariants as asked
use Rattle.gi_wire.specs.Gives.{GivesItem, GivesNext, GoesOn, Waits}
use Rattle.gi_wire.specs.Items.{item}
use Rattle.gi_wire.specs.Limits.{most_line}
use Rattle.gi_wire.specs.Source.{Source}
use Rattle.gi_wire.proofs.Reading.{long_line}
use Rattle.gi_wire.proofs.Sources.{gives_line, line_waits, source_of}
use Rattle.gi_wire.proofs.reader.Reader.take_line.Goals as goal

pub take_whole-requires-clause-line : goal.take_whole-requires-clause-line
take_whole-requires-clause-line c = subst (λ (k : Kept). IsLine c.in-Line.n k) (sym c.in-Line.ensures.2) c.in-Line.ensures.1

pub take_whole-requires-clause-short : goal.take_whole-requires-clause-short
take_whole-requires-clause-short c = omega (arith, c.in-Line.ensures.0, c.self.invariant.0.most)

pub returns-in-Line : goal.returns-in-Line
returns-in-Line c =
    let t = c.take_whole.new.self in
    subst (λ (r : Source). MatchOption c.take_whole.result (GoesOn r t) (λ g. GivesNext g r t))
    (ap (λ (k : Kept). source_of k c.self.inside.line c.self.inside.begun c.self.inside.load) c.in-Line.ensures.2 ∙ c.self.view_is) c.take_whole.ensures

pub returns-in-Long : goal.returns-in-Long
returns-in-Long c =
    let s : Source = source_of c.self.inside.lines c.self.inside.line c.self.inside.begun c.self.inside.load in
    let none : c.self.inside.load ≡ None = ap (λ (r : Source). r.load) c.self.view_is ∙ c.requires.load in
    let given = c.in-Long.ensures in
    let far : most_line < length given.0 = omega (arith, given.1, c.self.invariant.0.most) in
    rw (c.number.ensures.item, c.first-first.ensures) (subst (λ (r : Source). GivesItem (item c.self.inside.begun.first asked.Long) r c.number.new.self) c.self.view_is
    (gives_line s c.number.new.self c.look.new.self given.0 asked.Long none given.2 (λ next. long_line c.self.inside.line s.joined given.0 next far) tt c.number.ensures.next))

pub returns-in-More : goal.returns-in-More
returns-in-More c =
    let s : Source = source_of c.self.inside.lines c.self.inside.line c.self.inside.begun c.self.inside.load in
    let t : Source = source_of c.look.new.self c.self.inside.line c.self.inside.begun c.self.inside.load in
    let none : c.self.inside.load ≡ None = ap (λ (r : Source). r.load) c.self.view_is ∙ c.requires.load in
    subst (λ (r : Source). Waits r t) c.self.view_is (line_waits s t c.look.new.self none c.self.invariant.0.most c.in-More.ensures refl)

pub returns-in-Done : goal.returns-in-Done
returns-in-Done c =
    let t = c.cut_lines.new.self in
    subst (λ (r : Source). GivesNext c.cut_lines.result r t)
    (ap (λ (k : Kept). source_of k c.self.inside.line c.self.inside.begun c.self.inside.load) c.in-Done.ensures.2 ∙ c.self.view_is) c.cut_lines.ensures
