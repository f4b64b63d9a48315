use Rattle.std.proofs.Common.{sym, subst}
use Rattle.gi_wire.specs.declared.reader.RequestKind.{RequestKind}
use Rattle.gi_call.specs.MidCall.{AnswersItem}
use Rattle.gi_call.proofs.client.answer.Goals as goal

pub returns-in-Call-clause-item : goal.returns-in-Call-clause-item
returns-in-Call-clause-item g c = λ start es x.
    subst (λ (k : RequestKind). AnswersItem c.answer_call.result (record { line = c.args.item.line; asked = k }) start (g.L.Link.state c.answer_call.new.server) c.answer_call.new.asking es (g.M.Link.state c.args.user.now) (g.M.Link.state c.answer_call.new.user))
    (sym c.in-Call.is) (c.answer_call.ensures.item start es x)
