use Rattle.std.proofs.Common.{◌≡◌, ◌+◌, ◌-◌, ◌^◌, ◌<◌, ◌≤◌, [], false, length}
use Rattle.gi_wire.specs.Source.{ahead, last_line}
use Rattle.gi_call.specs.MidCall.{Calling}
use Rattle.gi_call.proofs.client.call_one.Given as goal

abbrev pub invariant-session : goal.invariant-session
invariant-session g l = record {
  whole : ahead l.reader false [] ≡ [];
  open_is : l.reader.lines.ended ≡ false;
  user_end : 0 < l.taken → (g.M.Link.state l.user).ended ≡ false;
  count : last_line l.reader ≤ l.taken + 1;
  few : l.asking.sent + length l.asking.lines.left ≤ l.asking.taken;
  most_asked : l.asking.taken ≤ 2 ^ 62 + 4096;
  most : l.taken < 2 ^ 62 + 4096;
  calling : Calling (g.L.Link.state l.fn.server) (g.L.Link.state l.server) (g.M.Link.state l.fn.user) (g.M.Link.state l.user) l.asking l.reader l.taken;
}

abbrev pub decreases-session : goal.decreases-session
decreases-session g l = 2 ^ 62 - l.taken
