use Rattle.std.proofs.Common.{◌↔◌, IsTrue, IfOk, sym, subst}
use Rattle.gi_model.specs.History.{Answers}
use Rattle.gi_model.specs.declared.calls.Call.{Call}
use Rattle.gi_reference.proofs.machine.Plain.answers.Goals as goal

pub returns-in-Test : goal.returns-in-Test
returns-in-Test c =
    let P : Call → Type 0 = λ k. IfOk c.answers_test.result (λ b. IsTrue b ↔ Answers c.args.self.now k c.args.reply.now) in
    subst P (sym c.in-Test.is) c.answers_test.ensures

pub returns-in-Reasons : goal.returns-in-Reasons
returns-in-Reasons c =
    let P : Call → Type 0 = λ k. IfOk c.answers_reasons.result (λ b. IsTrue b ↔ Answers c.args.self.now k c.args.reply.now) in
    subst P (sym c.in-Reasons.is) c.answers_reasons.ensures

pub returns-in-Model : goal.returns-in-Model
returns-in-Model c =
    let P : Call → Type 0 = λ k. IfOk c.answers_model.result (λ b. IsTrue b ↔ Answers c.args.self.now k c.args.reply.now) in
    subst P (sym c.in-Model.is) c.answers_model.ensures

pub returns-in-KnownClause : goal.returns-in-KnownClause
returns-in-KnownClause c =
    let P : Call → Type 0 = λ k. IfOk c.answers_clause.result (λ b. IsTrue b ↔ Answers c.args.self.now k c.args.reply.now) in
    subst P (sym c.in-KnownClause.is) c.answers_clause.ensures

pub returns-in-Work : goal.returns-in-Work
returns-in-Work c =
    let P : Call → Type 0 = λ k. IfOk c.answers_work.result (λ b. IsTrue b ↔ Answers c.args.self.now k c.args.reply.now) in
    subst P (sym c.in-Work.is) c.answers_work.ensures
