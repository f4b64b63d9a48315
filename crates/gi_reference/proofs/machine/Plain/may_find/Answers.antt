use Rattle.std.proofs.Common.{◌≡◌, ◌↔◌, IsTrue, IfOk, ℕ, List, ap, ◌∙◌, subst, sym, inr}
use Rattle.gi_model.specs.State.{State, Scope, all_assumed, scope_listed}
use Rattle.gi_model.specs.Tests.{SomeFailed}
use Rattle.gi_reference.proofs.Deciding.{no, not_so}
use Rattle.gi_reference.proofs.Causes.{failed_decides}
use Rattle.gi_reference.proofs.Finding.{MayFind, find_like}
use Rattle.gi_reference.proofs.machine.Plain.may_find.Goals as goal

pub returns-then-some_failed : goal.returns-then-some_failed
returns-then-some_failed c =
    let scopes : c.as_slice.result.now ≡ c.args.self.now.scopes = c.as_slice.ensures.value ∙ ap (λ (s : State). s.scopes) c.self.view_is in
    no (λ h. h.0 (inr (subst SomeFailed scopes ((failed_decides c.as_slice.result.now).0 (sym c.if-some_failed.ensures)))))

pub returns : goal.returns
returns c =
    let scopes : c.as_slice.result.now ≡ c.args.self.now.scopes = c.as_slice.ensures.value ∙ ap (λ (s : State). s.scopes) c.self.view_is in
    let again : c.as_slice-2.result.now ≡ c.args.self.now.scopes = c.as_slice-2.ensures.value ∙ ap (λ (s : State). s.scopes) c.self.view_is in
    let problem : c.self.inside.store ≡ c.args.self.now.problem = ap (λ (s : State). s.problem) c.self.view_is in
    let given : c.as_slice-3.result.now ≡ all_assumed c.args.self.now = c.as_slice-3.ensures ∙ c.in_ok-given.ensures in
    let earlier : c.as_slice-4.result.now ≡ scope_listed c.args.self.now.scopes = c.as_slice-4.ensures ∙ c.in_ok-earlier.ensures ∙ ap scope_listed again in
    let P : List ℕ → Type 0 = λ ls. IfOk c.may_imply.result (λ b. IsTrue b ↔ MayFind c.args.self.now ls) in
    subst P c.as_slice-wanted.ensures (find_like c.args.self.now c.may_imply.result c.as_slice-wanted.result.now c.self.inside.store c.as_slice-3.result.now c.as_slice-4.result.now problem given earlier
    (subst (λ (scs : List Scope). ¬ SomeFailed scs) scopes (not_so _ (failed_decides c.as_slice.result.now) c.if-some_failed.ensures)) c.may_imply.ensures)
