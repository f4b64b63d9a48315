use Rattle.std.proofs.Common.{sym, ap, length, ◌∙◌, arith, refl}
use Rattle.gi_net.proofs.Moving.{opening_none}
use Rattle.gi_call.proofs.Going.{calling_none, calling_read, many_end, read_ends, read_some}
use Rattle.gi_call.proofs.client.call_one.Goals as goal

pub session-init : goal.session-init
session-init g c = rw c.new-reader.ensures (record {
  whole = opening_none;
  open_is = refl;
  user_end = λ h. absurd (omega arith);
  count = omega arith;
  few = omega (arith, ap length c.new-asking.ensures.lines.0, c.new-asking.ensures.counts.0, c.new-asking.ensures.counts.1);
  most_asked = omega (arith, c.new-asking.ensures.counts.0);
  most = omega arith;
  calling = calling_none (g.L.Link.state c.args.server.now) (g.M.Link.state c.args.user.now) c.new-asking.result c.new-asking.ensures.lines.0 c.new-asking.ensures.lines.1 c.new-asking.ensures.counts.0 c.new-asking.ensures.counts.1 c.new-asking.ensures.kept;
})

pub returns-in-Some : goal.returns-in-Some
returns-in-Some g c = read_ends c.in-Some.end c.session.invariant.calling (c.in-Some.ensures.typed _ _ _ c.session.invariant.calling.typed)

pub returns-in-Some-answer_items : goal.returns-in-Some-answer_items
returns-in-Some-answer_items g c =
    c.in-Some-answer_items.ensures.calling (g.L.Link.state c.args.server.now) (g.M.Link.state c.args.user.now) c.read_more.new.taken c.in-None.ensures.ended (read_some c.read_more.new.reader.lines.ended c.in-None.ensures.grows c.in-None.ensures.ended) (calling_read c.read_more.new.reader c.session.invariant.calling (c.in-None.ensures.typed _ _ _ c.session.invariant.calling.typed))

pub session-preserved : goal.session-preserved
session-preserved g c =
    let still_open = c.in-None-answer_items.ensures.none.1 in
    record {
      whole = c.in-None-answer_items.ensures.none.0;
      open_is = still_open;
      user_end = λ h. c.in-None-answer_items.ensures.ended.0 ∙ c.in-None.ensures.ended ∙ sym c.in-None-answer_items.ensures.ended.1 ∙ still_open;
      count = omega (arith, c.in-None-answer_items.ensures.count, c.in-None.ensures.count, c.session.invariant.count);
      few = c.in-None-answer_items.ensures.few;
      most_asked = c.in-None-answer_items.ensures.most;
      most = omega (arith, c.in-None.ensures.most, c.session-test.true);
      calling = c.in-None-answer_items.ensures.calling (g.L.Link.state c.args.server.now) (g.M.Link.state c.args.user.now) c.read_more.new.taken c.in-None.ensures.ended (read_some c.read_more.new.reader.lines.ended c.in-None.ensures.grows c.in-None.ensures.ended) (calling_read c.read_more.new.reader c.session.invariant.calling (c.in-None.ensures.typed _ _ _ c.session.invariant.calling.typed));
    }

pub returns : goal.returns
returns g c = many_end c.session.invariant.calling (c.session.invariant.user_end (omega (arith, c.session-test.false)) ∙ sym c.session.invariant.open_is) c.session.invariant.open_is c.session.invariant.whole c.session-test.false
