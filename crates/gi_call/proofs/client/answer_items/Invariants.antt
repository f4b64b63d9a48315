use Rattle.std.proofs.Common.{◌≡◌, ℕ, ◌+◌, ◌^◌, ◌≤◌, length}
use Rattle.gi_outside.specs.World.{World}
use Rattle.gi_wire.specs.Source.{last_line, most_items}
use Rattle.gi_call.specs.MidCall.{Calling}
use Rattle.gi_call.proofs.client.answer_items.Given as goal

abbrev pub invariant-items : goal.invariant-items
invariant-items g l = record {
  count : last_line l.reader ≤ last_line l.fn.reader;
  few : l.asking.sent + length l.asking.lines.left ≤ l.asking.taken;
  most : l.asking.taken ≤ 2 ^ 62 + 4096;
  user_end : (g.M.Link.state l.user).ended ≡ (g.M.Link.state l.fn.user).ended;
  reader_end : l.reader.lines.ended ≡ l.fn.reader.lines.ended;
  calling : (server0 user0 : World) (taken : ℕ) → (g.M.Link.state l.fn.user).ended ≡ l.fn.reader.lines.ended
      → Calling server0 (g.L.Link.state l.fn.server) user0 (g.M.Link.state l.fn.user) l.fn.asking l.fn.reader taken
      → Calling server0 (g.L.Link.state l.server) user0 (g.M.Link.state l.user) l.asking l.reader taken;
}

abbrev pub decreases-items : goal.decreases-items
decreases-items g l = most_items l.reader
