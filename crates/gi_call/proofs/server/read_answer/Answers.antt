use Rattle.std.proofs.Common.{◌≤◌, sym, ◌∙◌, refl, arith}
use Rattle.gi_wire.specs.Limits.{most_u64}
use Rattle.gi_call.proofs.Telling.{can_have, none_told, none_unfit, none_unnamed, right_text}
use Rattle.gi_call.proofs.server.read_answer.Goals as goal

pub returns-then-not-may_answer : goal.returns-then-not-may_answer
returns-then-not-may_answer c =
    let low : c.args.number ≤ most_u64 = omega arith in
    (refl, none_unfit c.in-Told.named c.args.number c.args.call.now c.in-Told.reply c.args.line.now c.answers_differ.ensures low c.in-Told.ensures.0 c.in-Told.ensures.1 (sym c.may_answer.ensures ∙ c.if-not-may_answer.true))

pub returns-then-not-is_named : goal.returns-then-not-is_named
returns-then-not-is_named c =
    let low : c.args.number ≤ most_u64 = omega arith in
    (refl, none_unnamed c.in-Told.named c.args.number c.args.call.now c.in-Told.reply c.args.line.now c.answers_differ.ensures low c.in-Told.ensures.0 c.in-Told.ensures.1 (sym c.is_named.ensures ∙ c.if-not-is_named.true))

pub returns-else-not-is_named : goal.returns-else-not-is_named
returns-else-not-is_named c = (
  can_have c.in-Told.named c.args.call.now c.in-Told.reply (sym c.may_answer.ensures ∙ c.if-not-may_answer.false) c.in-Told.ensures.0,
  right_text c.in-Told.named c.args.number c.in-Told.reply c.args.line.now c.in-Told.ensures.0 (sym c.is_named.ensures ∙ c.if-not-is_named.false) c.in-Told.ensures.1,
)

pub returns-in-Bad : goal.returns-in-Bad
returns-in-Bad c =
    let low : c.args.number ≤ most_u64 = omega arith in
    (refl, none_told c.args.number c.args.call.now c.args.line.now low c.in-Bad.ensures)
