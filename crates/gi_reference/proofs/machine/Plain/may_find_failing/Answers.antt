use Rattle.std.proofs.Common.{◌≡◌, ◌↔◌, IsTrue, IfOk, ℕ, List, ap, ◌∙◌, subst, sym}
use Rattle.gi_lit.specs.Lists.{IsSublist}
use Rattle.gi_lit.specs.Truth.{Fail}
use Rattle.gi_lit.specs.Problem.{Problem, in_force}
use Rattle.gi_model.specs.State.{State, all_assumed}
use Rattle.gi_model.specs.Tests.{MustFail}
use Rattle.gi_reference.proofs.Deciding.{no, not_so}
use Rattle.gi_reference.proofs.Finding.{find_failing_like}
use Rattle.gi_reference.proofs.machine.Plain.may_find_failing.Goals as goal

pub returns : goal.returns
returns c =
    let problem : c.self.inside.store ≡ c.args.self.now.problem = ap (λ (s : State). s.problem) c.self.view_is in
    let given : c.as_slice.result.now ≡ all_assumed c.args.self.now = c.as_slice.ensures ∙ c.in_ok-given.ensures in
    let forced : c.as_slice-2.result.now ≡ in_force c.args.self.now.problem c.as_slice-some.result.now = c.as_slice-2.ensures.value ∙ c.in_ok-forced.ensures ∙ ap (λ p. in_force p c.as_slice-some.result.now) problem in
    let P : List ℕ → Type 0 = λ ls. IfOk c.fails.result (λ b. IsTrue b ↔ (MustFail c.args.self.now × IsSublist ls (all_assumed c.args.self.now) × Fail (in_force c.args.self.now.problem ls) ls)) in
    subst P c.as_slice-some.ensures (find_failing_like c.args.self.now c.fails.result c.as_slice-some.result.now c.as_slice-2.result.now forced (c.in_ok-must_fail.ensures.0 c.if-not-must_fail.false)
    (subst (IsSublist c.as_slice-some.result.now) given (c.is_sublist.ensures.0 c.if-not-is_sublist.false)) c.fails.ensures)
