use Rattle.std.proofs.Common.{◌≡◌, ◌↔◌, IsTrue, IfOk, subst, sym, arith}
use Rattle.gi_model.specs.Work.{EndsWork}
use Rattle.gi_model.specs.declared.replies.Now.{Now}
use Rattle.gi_model.specs.Views.{run_of}
use Rattle.gi_reference.proofs.Deciding.{not_so}
use Rattle.gi_reference.proofs.Working.{ended_like}
use Rattle.gi_reference.proofs.machine.Plain.may_leave.Goals as goal

pub returns-in-Ended : goal.returns-in-Ended
returns-in-Ended c =
    let P : Now → Type 0 = λ n. IfOk c.may_end.result (λ b. IsTrue b ↔ EndsWork c.args.self.now (run_of c.args.run.now) c.args.mark c.args.news.now n) in
    subst P (sym c.in-Ended.is) (ended_like c.args.self.now (run_of c.args.run.now) c.args.mark c.args.news.now c.may_end.result c.in-Ended.verdict (omega arith) (not_so c.is_spent.result c.is_spent.ensures (sym c.if-is_spent.false)) c.may_end.ensures)
