use Rattle.std.proofs.Common.{◌≡◌, ◌↔◌, ◌++◌, false, IsTrue, IfOk, ℕ, List, ap, ◌∙◌, subst, sym}
use Rattle.gi_lit.specs.Lists.{IsSublist}
use Rattle.gi_lit.specs.Problem.{Problem, in_force, full}
use Rattle.gi_model.specs.State.{State}
use Rattle.gi_lit.specs.Ends.{IsFailing}
use Rattle.gi_reference.proofs.Deciding.{no, not_so}
use Rattle.gi_reference.proofs.Working.{failing_like, not_failing}
use Rattle.gi_reference.proofs.machine.Plain.may_fail.Goals as goal

pub returns-then-not-failing : goal.returns-then-not-failing
returns-then-not-failing c =
    let problem : c.self.inside.store ≡ c.args.self.now.problem = ap (λ (s : State). s.problem) c.self.view_is in
    let forced : c.as_slice-2.result.now ≡ in_force c.args.self.now.problem c.as_slice-some.result.now = c.as_slice-2.ensures.value ∙ c.in_ok-forced.ensures ∙ ap (λ p. in_force p c.as_slice-some.result.now) problem in
    let P : List ℕ → Type 0 = λ ls. IsTrue false ↔ IsFailing c.args.self.now.problem c.args.assumed.now c.args.known.now ls in
    subst P c.as_slice-some.ensures (no (not_failing c.args.self.now c.args.assumed.now c.args.known.now c.as_slice-some.result.now c.as_slice-2.result.now forced (not_so c.in_ok-failing.failing c.in_ok-failing.ensures (sym c.if-not-failing.true))))

pub returns : goal.returns
returns c =
    let problem : c.self.inside.store ≡ c.args.self.now.problem = ap (λ (s : State). s.problem) c.self.view_is in
    let forced : c.as_slice-2.result.now ≡ in_force c.args.self.now.problem c.as_slice-some.result.now = c.as_slice-2.ensures.value ∙ c.in_ok-forced.ensures ∙ ap (λ p. in_force p c.as_slice-some.result.now) problem in
    let all : c.as_slice-4.result.now ≡ full c.args.self.now.problem ++ c.args.known.now = c.as_slice-4.ensures.value ∙ c.in_ok-all.ensures ∙ ap (λ cs. cs ++ c.args.known.now) (c.as_slice-3.ensures.value ∙ c.in_ok-whole.ensures ∙ ap full problem) in
    let P : List ℕ → Type 0 = λ ls. IfOk c.conflicts.result (λ b. IsTrue b ↔ IsFailing c.args.self.now.problem c.args.assumed.now c.args.known.now ls) in
    subst P c.as_slice-some.ensures (failing_like c.args.self.now c.args.assumed.now c.args.known.now c.as_slice-some.result.now c.conflicts.result c.as_slice-2.result.now c.as_slice-4.result.now forced all
    (subst (IsSublist c.as_slice-some.result.now) c.as_slice.ensures (c.is_sublist.ensures.0 c.if-not-is_sublist.false)) (c.in_ok-failing.ensures.0 c.if-not-failing.false) c.conflicts.ensures)
