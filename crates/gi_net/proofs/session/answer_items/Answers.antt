use Rattle.std.proofs.Common.{sym, ◌∙◌, arith, inl, inr, refl}
use Rattle.gi_net.specs.Leads.{none}
use Rattle.gi_outside.proofs.Writing.{rose_since}
use Rattle.gi_net.proofs.Telling.{starved_as}
use Rattle.gi_net.proofs.Leading.{leads_both}
use Rattle.gi_net.proofs.Ending.{ends_eof, item_ends, item_goes, no_memory}
use Rattle.gi_net.proofs.Moving.{same_goes}
use Rattle.gi_net.proofs.session.answer_items.Goals as goal

pub returns-in-Some-clause-session : goal.returns-in-Some-clause-session
returns-in-Some-clause-session g c = λ start first before taken same count going.
    let v = g.L.Link.state c.items.link in
    let w = g.L.Link.state c.answer.new.link in
    let h = g.C.Caller.standing c.items.caller in
    let k = g.C.Caller.standing c.answer.new.caller in
    let rose = rose_since before (g.C.Caller.starved c.items.caller) (g.C.Caller.starved c.answer.new.caller) (omega (arith, count, c.items.invariant.starved)) in
    item_ends w k c.next_item.new.self c.in-Request.item c.in-Some.how
    (c.items.invariant.going start first taken going) (c.items.invariant.link_end ∙ same ∙ sym c.items.invariant.reader_end) c.in-Request.ensures (starved_as c.in-Some.how c.in-Request.item h k v w rose c.in-Some.ensures.item)

pub items-init : goal.items-init
items-init g c = record {
  led = none;
  count = omega arith;
  starved = omega arith;
  link_end = refl;
  reader_end = refl;
  going = λ start first taken going. going;
}

pub items-preserved : goal.items-preserved
items-preserved g c = record {
  led = leads_both g.C.Caller.kept c.args.caller.now c.items.caller c.answer.new.caller c.items.invariant.led c.in-None.ensures.led;
  count = omega (arith, c.items.invariant.count, c.in-Request.ensures.count);
  starved = omega (arith, c.items.invariant.starved, c.in-None.ensures.starved);
  link_end = c.in-None.ensures.item.wrote.ended ∙ c.items.invariant.link_end;
  reader_end = c.in-Request.ensures.ended ∙ c.items.invariant.reader_end;
  going = λ start first taken going.
      item_goes (g.L.Link.state c.answer.new.link) (g.C.Caller.standing c.answer.new.caller) c.next_item.new.self c.in-Request.item (c.items.invariant.going start first taken going) c.in-Request.ensures c.in-None.ensures.item;
}

pub returns-in-More-clause-session : goal.returns-in-More-clause-session
returns-in-More-clause-session g c = λ start first before taken same count going.
    same_goes c.next_item.new.self (c.items.invariant.going start first taken going) c.in-More.ensures.same (c.in-More.ensures.ended ∙ sym c.in-More.ensures.not_ended)

pub returns-in-Done-clause-session : goal.returns-in-Done-clause-session
returns-in-Done-clause-session g c = λ start first before taken same count going.
    ends_eof (c.items.invariant.going start first taken going) (c.items.invariant.link_end ∙ same ∙ sym c.items.invariant.reader_end) c.in-Done.ensures.0 c.in-Done.ensures.1

pub returns-in-NoMemory-clause-session : goal.returns-in-NoMemory-clause-session
returns-in-NoMemory-clause-session g c = λ start first before taken same count going.
    let so_far = c.items.invariant.going start first taken going in
    let wants = c.in-NoMemory.ensures.1 in
    no_memory (g.L.Link.state c.tell_no_memory.new.link) c.tell_no_memory.result so_far.so_far so_far.quiet (c.items.invariant.link_end ∙ same ∙ sym c.items.invariant.reader_end) (λ x. absurd x) (inr (inl wants)) c.tell_no_memory.ensures

pub returns-in-Some-clause-led : goal.returns-in-Some-clause-led
returns-in-Some-clause-led g c = leads_both g.C.Caller.kept c.args.caller.now c.items.caller c.answer.new.caller c.items.invariant.led c.in-Some.ensures.led
