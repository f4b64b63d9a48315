use Rattle.std.proofs.Common.{ℕ, ◌+◌, ◌^◌, ◌≤◌, List, length}
use Rattle.gi_outside.specs.World.{World}
use Rattle.gi_kept.specs.Exchanges.{Exchange}
use Rattle.gi_call.specs.MidCall.{Spoken, to_read}
use Rattle.gi_call.proofs.server.await_line.Given as goal

abbrev pub invariant-pieces : goal.invariant-pieces
invariant-pieces g l = record {
  most : l.taken ≤ 2 ^ 62 + 4096;
  few : (sent : ℕ) → sent + length l.fn.lines.left ≤ l.fn.taken → sent + length l.lines.left ≤ l.taken;
  spoken : (start : World) (es : List Exchange) (sent : List ℕ) → Spoken start (g.L.Link.state l.fn.server) es sent l.fn.lines l.fn.taken
      → Spoken start (g.L.Link.state l.server) es sent l.lines l.taken;
}

abbrev pub decreases-pieces : goal.decreases-pieces
decreases-pieces g l = to_read l.lines.ended l.taken
