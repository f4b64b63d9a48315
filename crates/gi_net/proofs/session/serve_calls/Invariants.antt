use Rattle.std.proofs.Common.{◌≡◌, ◌+◌, ◌-◌, ◌^◌, ◌<◌, ◌≤◌, [], false}
use Rattle.gi_wire.specs.Source.{ahead, last_line}
use Rattle.gi_net.specs.Leads.{Leads}
use Rattle.gi_net.specs.MidSession.{MidSession}
use Rattle.gi_net.proofs.session.serve_calls.Given as goal

abbrev pub invariant-session : goal.invariant-session
invariant-session g l = record {
  led : Leads g.C.Caller.kept l.fn.caller l.caller;
  whole : ahead l.reader false [] ≡ [];
  open_is : l.reader.lines.ended ≡ false;
  link_end : 0 < l.taken → (g.L.Link.state l.link).ended ≡ false;
  count : last_line l.reader ≤ l.taken + 1;
  starved : g.C.Caller.starved l.fn.caller ≤ g.C.Caller.starved l.caller;
  most : l.taken < 2 ^ 62 + 4096;
  going : MidSession (g.L.Link.state l.fn.link) (g.L.Link.state l.link) (g.C.Caller.standing l.fn.caller) (g.C.Caller.standing l.caller) l.reader l.taken;
}

abbrev pub decreases-session : goal.decreases-session
decreases-session g l = 2 ^ 62 - l.taken
