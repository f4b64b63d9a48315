use Rattle.std.proofs.Common.{sym, ◌∙◌, arith, refl, inl, inr}
use Rattle.gi_call.proofs.Going.{all_ends, item_ends, item_goes, memory_ends, same_goes}
use Rattle.gi_call.proofs.Sendable.{given_sends}
use Rattle.gi_call.proofs.client.answer_items.Goals as goal

pub items-init : goal.items-init
items-init g c = record {
  count = omega arith;
  few = c.requires.few;
  most = c.requires.most;
  user_end = refl;
  reader_end = refl;
  calling = λ server user taken same x. x;
}

pub answer-requires-clause-can : goal.answer-requires-clause-can
answer-requires-clause-can g c = given_sends c.in-Request.item c.items.reader c.next_item.new.self c.in-Request.ensures

pub items-preserved : goal.items-preserved
items-preserved g c = record {
  count = omega (arith, c.items.invariant.count, c.in-Request.ensures.count);
  few = c.in-None.ensures.few;
  most = c.in-None.ensures.most;
  user_end = c.in-None.ensures.ended ∙ c.items.invariant.user_end;
  reader_end = c.in-Request.ensures.ended ∙ c.items.invariant.reader_end;
  calling = λ server user taken same x.
      let was = c.items.invariant.calling server user taken same x in
      item_goes c.next_item.new.self c.in-Request.item was (c.items.invariant.user_end ∙ same ∙ sym c.items.invariant.reader_end) c.in-Request.ensures (c.in-None.ensures.item server _ was.spoken);
}

pub returns-in-Some-clause-calling : goal.returns-in-Some-clause-calling
returns-in-Some-clause-calling g c = λ server user taken same read x.
    let was = c.items.invariant.calling server user taken same x in
    item_ends c.answer.new.asking c.next_item.new.self c.in-Request.item c.in-Some.end was (c.items.invariant.user_end ∙ same ∙ sym c.items.invariant.reader_end) c.in-Request.ensures (c.in-Some.ensures.item server _ was.spoken)

pub returns-in-More-clause-calling : goal.returns-in-More-clause-calling
returns-in-More-clause-calling g c = λ server user taken same read x.
    same_goes c.next_item.new.self (c.items.invariant.calling server user taken same x) c.in-More.ensures.same (c.in-More.ensures.ended ∙ sym c.in-More.ensures.not_ended)

pub returns-in-Done-clause-calling : goal.returns-in-Done-clause-calling
returns-in-Done-clause-calling g c = λ server user taken same read x.
    all_ends (c.items.invariant.calling server user taken same x) (c.items.invariant.user_end ∙ same ∙ sym c.items.invariant.reader_end) c.in-Done.ensures.0 c.in-Done.ensures.1

pub returns-in-NoMemory-clause-calling : goal.returns-in-NoMemory-clause-calling
returns-in-NoMemory-clause-calling g c = λ server user taken same read x.
    memory_ends (c.items.invariant.calling server user taken same x) (c.items.invariant.user_end ∙ same ∙ sym c.items.invariant.reader_end) (elim read [ inl some ↦ inl some | inr ended ↦ inr (c.items.invariant.user_end ∙ ended) ])
