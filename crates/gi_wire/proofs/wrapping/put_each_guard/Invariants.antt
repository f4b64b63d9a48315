use Rattle.std.proofs.Common.{◌≡◌, ◌≤◌, ◌++◌, ℕ, List, map, pos, take}
use Rattle.gi_outside.specs.Outbox.{Stands}
use Rattle.gi_outside.specs.World.{World}
use Rattle.gi_wire.specs.CallText.{column_after, wrapped}
use Rattle.gi_wire.specs.Limits.{most_line}
use Rattle.gi_wire.proofs.wrapping.put_each_guard.Given as goal

abbrev pub invariant-loop-guard : goal.invariant-loop-guard
invariant-loop-guard g l = record {
  text : (start : World) (before : List ℕ) → Stands start (g.L.Link.state l.fn.link) l.fn.outbox before
      → Stands start (g.L.Link.state l.link) l.outbox (before ++ wrapped l.fn.column (map pos (take l.guard-index l.guards)));
  column : l.filled ≡ column_after l.fn.column (map pos (take l.guard-index l.guards));
  short : l.filled ≤ most_line;
}
