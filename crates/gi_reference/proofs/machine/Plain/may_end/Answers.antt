use Rattle.std.proofs.Common.{◌≡◌, ◌↔◌, ◌++◌, IsTrue, IfOk, ℕ, List, ap, ◌∙◌, subst, sym}
use Rattle.gi_model.specs.State.{State}
use Rattle.gi_lit.specs.Ends.{IsFailing}
use Rattle.gi_model.specs.declared.replies.Verdict.{Verdict}
use Rattle.gi_model.specs.Views.{run_of}
use Rattle.gi_reference.specs.Ends.{EndsWith}
use Rattle.gi_reference.proofs.machine.Plain.may_end.Goals as goal

pub returns-in-Sat : goal.returns-in-Sat
returns-in-Sat c =
    let P : Verdict → Type 0 = λ v. IfOk c.may_satisfy.result (λ b. IsTrue b ↔ EndsWith c.args.self.now (run_of c.args.run.now) c.args.news.now v) in
    subst P (sym c.in-Sat.is) c.may_satisfy.ensures

pub returns-in_ok-known-in-Unsat : goal.returns-in_ok-known-in-Unsat
returns-in_ok-known-in-Unsat c =
    let known : c.as_slice-in-Unsat.result.now ≡ c.args.self.now.known ++ c.args.news.now = c.as_slice-in-Unsat.ensures.value ∙ c.in_ok-known-in-Unsat.ensures ∙ ap (λ cs. cs ++ c.args.news.now) (c.as_slice.ensures.value ∙ ap (λ (s : State). s.known) c.self.view_is) in
    let P : Verdict → Type 0 = λ v. IfOk c.may_fail.result (λ b. IsTrue b ↔ EndsWith c.args.self.now (run_of c.args.run.now) c.args.news.now v) in
    subst P (sym c.in-Unsat.is) (subst (λ ks. IfOk c.may_fail.result (λ b. IsTrue b ↔ IsFailing c.args.self.now.problem c.args.run.now.assumed ks c.in-Unsat.failed)) known c.may_fail.ensures)
