use Rattle.std.proofs.Common.{◌≡◌, ◌≤◌, None, length}
use Rattle.gi_wire.specs.Gives.{SameAhead}
use Rattle.gi_wire.specs.Source.{last_line, most_items}
use Rattle.gi_wire.proofs.reader.Reader.next_lines.Given as goal

abbrev pub invariant-lines : goal.invariant-lines
invariant-lines l = record {
  same : SameAhead l.fn.self l.self;
  ended : l.self.lines.ended ≡ l.fn.self.lines.ended;
  fewer : most_items l.self ≤ most_items l.fn.self;
  count : last_line l.self ≤ last_line l.fn.self;
  load : l.self.load ≡ None;
}

abbrev pub decreases-lines : goal.decreases-lines
decreases-lines l = length l.self.lines.left
