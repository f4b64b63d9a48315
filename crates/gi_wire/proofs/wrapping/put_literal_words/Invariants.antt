use Rattle.std.proofs.Common.{◌≡◌, ◌≤◌, ◌++◌, ℕ, List, map, take}
use Rattle.gi_lit.specs.Literals.{number_of}
use Rattle.gi_outside.specs.Outbox.{Stands}
use Rattle.gi_outside.specs.World.{World}
use Rattle.gi_wire.specs.CallText.{column_after, wrapped}
use Rattle.gi_wire.specs.Limits.{most_line}
use Rattle.gi_wire.proofs.wrapping.put_literal_words.Given as goal

abbrev pub invariant-loop-literal : goal.invariant-loop-literal
invariant-loop-literal g l = record {
  text : (start : World) (before : List ℕ) → Stands start (g.L.Link.state l.fn.link) l.fn.outbox before
      → Stands start (g.L.Link.state l.link) l.outbox (before ++ wrapped l.fn.column (map number_of (take l.literal-index l.literals)));
  column : l.filled ≡ column_after l.fn.column (map number_of (take l.literal-index l.literals));
  short : l.filled ≤ most_line;
}
