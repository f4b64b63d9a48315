use Rattle.std.proofs.Common.{◌↔◌, IsTrue, IfOk, sym, subst}
use Rattle.gi_model.specs.Tests.{AnswersReasons}
use Rattle.gi_model.specs.declared.replies.Reply.{Reply}
use Rattle.gi_reference.proofs.Deciding.{no}
use Rattle.gi_reference.proofs.Following.{not_reasons}
use Rattle.gi_reference.proofs.machine.Plain.answers_reasons.Goals as goal

pub returns-in-Reasons : goal.returns-in-Reasons
returns-in-Reasons c =
    let P : Reply → Type 0 = λ a. IfOk c.may_explain.result (λ b. IsTrue b ↔ AnswersReasons c.args.self.now c.args.m a) in
    subst P (sym c.in-Reasons.is) c.may_explain.ensures

pub returns-in_default : goal.returns-in_default
returns-in_default c = no (not_reasons c.args.self.now c.args.m c.args.reply.now c.in_default.not-Reasons)
