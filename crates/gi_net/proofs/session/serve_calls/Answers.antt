use Rattle.std.proofs.Common.{sym, ◌∙◌, arith, refl}
use Rattle.gi_net.specs.Leads.{none}
use Rattle.gi_net.proofs.Leading.{leads_both}
use Rattle.gi_net.proofs.Ending.{ends_too_much}
use Rattle.gi_net.proofs.Moving.{begun, opening, opening_ahead, opening_none}
use Rattle.gi_net.proofs.session.serve_calls.Goals as goal

pub session-init : goal.session-init
session-init g c = rw c.new-reader.ensures (record {
  led = none;
  whole = opening_none;
  open_is = refl;
  link_end = λ h. absurd (omega arith);
  count = omega arith;
  starved = omega arith;
  most = omega arith;
  going = begun (g.L.Link.state c.args.link.now) (g.C.Caller.standing c.args.caller.now) opening opening_ahead;
})

pub returns-in-Some-clause-over : goal.returns-in-Some-clause-over
returns-in-Some-clause-over g c = c.in-Some.ensures.session (g.L.Link.state c.args.link.now) (g.C.Caller.standing c.args.caller.now) (g.C.Caller.standing c.session.caller) (g.C.Caller.starved c.args.caller.now) (g.C.Caller.starved c.session.caller) c.session.invariant.going

pub returns-in-Some-answer_items-clause-over : goal.returns-in-Some-answer_items-clause-over
returns-in-Some-answer_items-clause-over g c =
    let read = c.in-None.ensures.session (g.L.Link.state c.args.link.now) (g.C.Caller.standing c.args.caller.now) (g.C.Caller.standing c.session.caller) (g.C.Caller.starved c.args.caller.now) (g.C.Caller.starved c.session.caller) c.session.invariant.going in
    c.in-Some-answer_items.ensures.session (g.L.Link.state c.args.link.now) (g.C.Caller.standing c.args.caller.now) (g.C.Caller.starved c.args.caller.now) c.read_more.new.taken c.in-None.ensures.ended c.session.invariant.starved read

pub session-preserved : goal.session-preserved
session-preserved g c =
    let read = c.in-None.ensures.session (g.L.Link.state c.args.link.now) (g.C.Caller.standing c.args.caller.now) (g.C.Caller.standing c.session.caller) (g.C.Caller.starved c.args.caller.now) (g.C.Caller.starved c.session.caller) c.session.invariant.going in
    let still_open = c.in-None-answer_items.ensures.none.1 in
    record {
      led = leads_both g.C.Caller.kept c.args.caller.now c.session.caller c.answer_items.new.caller c.session.invariant.led c.in-None-answer_items.ensures.led;
      whole = c.in-None-answer_items.ensures.none.0;
      open_is = still_open;
      link_end = λ h. c.in-None-answer_items.ensures.ended.0 ∙ c.in-None.ensures.ended ∙ sym c.in-None-answer_items.ensures.ended.1 ∙ still_open;
      count = omega (arith, c.in-None-answer_items.ensures.count, c.in-None.ensures.count, c.session.invariant.count);
      starved = omega (arith, c.session.invariant.starved, c.in-None-answer_items.ensures.starved);
      most = omega (arith, c.in-None.ensures.most, c.session-test.true);
      going = c.in-None-answer_items.ensures.session (g.L.Link.state c.args.link.now) (g.C.Caller.standing c.args.caller.now) (g.C.Caller.starved c.args.caller.now) c.read_more.new.taken c.in-None.ensures.ended c.session.invariant.starved read;
    }

pub returns-clause-over : goal.returns-clause-over
returns-clause-over g c = ends_too_much c.session.invariant.going (c.session.invariant.link_end (omega (arith, c.session-test.false)) ∙ sym c.session.invariant.open_is) c.session-test.false

pub returns-in-Some-answer_items-clause-led : goal.returns-in-Some-answer_items-clause-led
returns-in-Some-answer_items-clause-led g c = leads_both g.C.Caller.kept c.args.caller.now c.session.caller c.answer_items.new.caller c.session.invariant.led c.in-Some-answer_items.ensures.led
