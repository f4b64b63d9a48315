use Rattle.std.proofs.Common.{◌↔◌, IsTrue, IfOk, sym, subst}
use Rattle.gi_model.specs.Tests.{AnswersTest}
use Rattle.gi_model.specs.declared.replies.Reply.{Reply}
use Rattle.gi_reference.proofs.Deciding.{no}
use Rattle.gi_reference.proofs.Following.{not_test}
use Rattle.gi_reference.proofs.machine.Plain.answers_test.Goals as goal

pub returns-in-Implied : goal.returns-in-Implied
returns-in-Implied c =
    let P : Reply → Type 0 = λ a. IfOk c.may_find.result (λ b. IsTrue b ↔ AnswersTest c.args.self.now a) in
    subst P (sym c.in-Implied.is) c.may_find.ensures

pub returns-in-Failed : goal.returns-in-Failed
returns-in-Failed c =
    let P : Reply → Type 0 = λ a. IfOk c.may_find_failing.result (λ b. IsTrue b ↔ AnswersTest c.args.self.now a) in
    subst P (sym c.in-Failed.is) c.may_find_failing.ensures

pub returns-in_default : goal.returns-in_default
returns-in_default c = no (not_test c.args.self.now c.args.reply.now c.in_default.not-Implied c.in_default.not-Failed)
