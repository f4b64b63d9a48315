use Rattle.std.proofs.Common.{◌≡◌, ℕ, List, ap, ◌∙◌, subst, sym, inr}
use Rattle.gi_lit.specs.Problem.{Problem, in_force}
use Rattle.gi_model.specs.State.{State, Scope, all_assumed}
use Rattle.gi_model.specs.Tests.{SomeFailed}
use Rattle.gi_reference.proofs.Deciding.{yes, not_so}
use Rattle.gi_reference.proofs.Causes.{failed_decides}
use Rattle.gi_reference.proofs.Finding.{must_like}
use Rattle.gi_reference.proofs.machine.Plain.must_fail.Goals as goal

pub returns-then-some_failed : goal.returns-then-some_failed
returns-then-some_failed c =
    let scopes : c.as_slice.result.now ≡ c.args.self.now.scopes = c.as_slice.ensures.value ∙ ap (λ (s : State). s.scopes) c.self.view_is in
    yes (inr (subst SomeFailed scopes ((failed_decides c.as_slice.result.now).0 (sym c.if-some_failed.ensures))))

pub returns : goal.returns
returns c =
    let scopes : c.as_slice.result.now ≡ c.args.self.now.scopes = c.as_slice.ensures.value ∙ ap (λ (s : State). s.scopes) c.self.view_is in
    let problem : c.self.inside.store ≡ c.args.self.now.problem = ap (λ (s : State). s.problem) c.self.view_is in
    let given : c.as_slice-2.result.now ≡ all_assumed c.args.self.now = c.as_slice-2.ensures ∙ c.in_ok-given.ensures in
    let again : c.as_slice-4.result.now ≡ all_assumed c.args.self.now = c.as_slice-4.ensures ∙ c.in_ok-given.ensures in
    let forced : c.as_slice-3.result.now ≡ in_force c.args.self.now.problem (all_assumed c.args.self.now) = c.as_slice-3.ensures.value ∙ c.in_ok-forced.ensures ∙ ap (λ p. in_force p c.as_slice-2.result.now) problem ∙ ap (in_force c.args.self.now.problem) given in
    must_like c.args.self.now c.conflicts.result c.as_slice-3.result.now c.as_slice-4.result.now forced again (subst (λ scs. ¬ SomeFailed scs) scopes (not_so _ (failed_decides c.as_slice.result.now) c.if-some_failed.ensures)) c.conflicts.ensures
