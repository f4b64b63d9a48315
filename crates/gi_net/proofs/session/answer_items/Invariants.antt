use Rattle.std.proofs.Common.{◌≡◌, ◌≤◌, ℕ}
use Rattle.gi_outside.specs.World.{World}
use Rattle.gi_wire.specs.Source.{last_line, most_items}
use Rattle.gi_net.specs.Leads.{Leads}
use Rattle.gi_net.specs.MidSession.{MidSession}
use Rattle.gi_net.specs.Standing.{Standing}
use Rattle.gi_net.proofs.session.answer_items.Given as goal

abbrev pub invariant-items : goal.invariant-items
invariant-items g l = record {
  led : Leads g.C.Caller.kept l.fn.caller l.caller;
  count : last_line l.reader ≤ last_line l.fn.reader;
  starved : g.C.Caller.starved l.fn.caller ≤ g.C.Caller.starved l.caller;
  link_end : (g.L.Link.state l.link).ended ≡ (g.L.Link.state l.fn.link).ended;
  reader_end : l.reader.lines.ended ≡ l.fn.reader.lines.ended;
  going : (start : World) (first : Standing) (taken : ℕ) → MidSession start (g.L.Link.state l.fn.link) first (g.C.Caller.standing l.fn.caller) l.fn.reader taken
      → MidSession start (g.L.Link.state l.link) first (g.C.Caller.standing l.caller) l.reader taken;
}

abbrev pub decreases-items : goal.decreases-items
decreases-items g l = most_items l.reader
