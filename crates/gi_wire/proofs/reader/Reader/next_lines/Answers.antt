use Rattle.std.proofs.Common.{◌∙◌, arith, sym}
use Rattle.gi_wire.proofs.Sources.{after_same}
use Rattle.gi_wire.proofs.reader.Reader.next_lines.Goals as goal

pub returns-in-Some : goal.returns-in-Some
returns-in-Some c = after_same c.in-Some.given c.args.self.now c.lines.self c.take_line.new.self c.lines.invariant.same c.lines.invariant.ended c.lines.invariant.fewer c.lines.invariant.count c.in-Some.ensures

pub lines-preserved : goal.lines-preserved
lines-preserved c =
    let goes = c.in-None.ensures in
    let was = c.lines.invariant in
    record {
      same = record { each = λ e more comes. goes.same.each e more (λ h. comes (sym was.ended ∙ h)) ∙ was.same.each e more comes };
      ended = goes.ended ∙ was.ended;
      fewer = omega (arith, goes.fewer, was.fewer);
      count = omega (arith, goes.count, was.count);
      load = goes.load;
    }
