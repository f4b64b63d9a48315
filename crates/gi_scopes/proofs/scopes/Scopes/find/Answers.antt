use Rattle.std.proofs.Common.{◌≡◌, ◌++◌, [], ℕ, List, ap, ◌∙◌, subst, inr}
use Rattle.std.proofs.lemmas.Result.{IfOk-weaker}
use Rattle.gi_lit.specs.Problem.{Problem}
use Rattle.gi_store.specs.StoreView.{problem_of}
use Rattle.gi_model.specs.State.{Scope, scope_assumed, scope_listed}
use Rattle.gi_model.specs.Tests.{SomeFailed}
use Rattle.gi_scopes.specs.Open.{Open}
use Rattle.gi_scopes.specs.Kept.{AreChosen, HasFailing}
use Rattle.gi_scopes.specs.Built.{kept_lits}
use Rattle.gi_scopes.specs.Listing.{GrowsLittle, Closes, Finds, Builds}
use Rattle.gi_scopes.proofs.Failing.{has_failed, failing_chosen, failing_fails, finds_of}
use Rattle.gi_scopes.proofs.scopes.Scopes.find.Goals as goal

pub returns-in-Some-clause-finds : goal.returns-in-Some-clause-finds
returns-in-Some-clause-finds g c =
    let scs : List Scope = c.args.self.now.scopes in
    let levels : c.as_slice.result.now ≡ scs = c.as_slice.ensures.value ∙ ap (λ (x : Open). x.scopes) c.self.view_is in
    let h : HasFailing scs c.in-Some.w.now = subst (λ s. HasFailing s c.in-Some.w.now) levels c.in-Some.ensures.some in
    let chosen : AreChosen [] scs = subst (λ (x : Open). AreChosen [] x.scopes) c.self.view_is c.self.invariant.0.chosen in
    rw c.in_ok-copy-in-Some.ensures (inr (has_failed scs c.in-Some.w.now h), failing_chosen scs c.in-Some.w.now h chosen c.args.assumed.now, failing_fails scs c.in-Some.w.now h (problem_of c.args.store.now) c.requires.failing)

pub find-requires-clause-depth : goal.find-requires-clause-depth
find-requires-clause-depth g c =
    let again : c.as_slice-levels.result.now ≡ c.args.self.now.scopes = c.as_slice-levels.ensures.value ∙ ap (λ (x : Open). x.scopes) c.self.view_is in
    rw again c.requires.depth

pub find-requires-clause-open : goal.find-requires-clause-open
find-requires-clause-open g c =
    let again : c.as_slice-levels.result.now ≡ c.args.self.now.scopes = c.as_slice-levels.ensures.value ∙ ap (λ (x : Open). x.scopes) c.self.view_is in
    rw again c.requires.open

pub find-requires-clause-assumed : goal.find-requires-clause-assumed
find-requires-clause-assumed g c = rw c.as_slice-3.ensures c.requires.assumed

pub find-requires-clause-given : goal.find-requires-clause-given
find-requires-clause-given g c =
    let a : List ℕ = scope_assumed c.args.self.now.scopes in
    let again : c.as_slice-levels.result.now ≡ c.args.self.now.scopes = c.as_slice-levels.ensures.value ∙ ap (λ (x : Open). x.scopes) c.self.view_is in
    let given : c.as_slice-4.result.now ≡ a ++ c.args.assumed.now = c.as_slice-4.ensures ∙ c.in_ok-append.ensures.ok ∙ ap (λ xs. xs ++ c.as_slice-2.result.now) (c.in_ok-push_assumed.ensures.ok ∙ ap (λ xs. xs ++ a) c.new-given.ensures) ∙ ap (λ ys. a ++ ys) c.as_slice-2.ensures in
    rw (again, c.as_slice-3.ensures) given

pub find-requires-clause-kept : goal.find-requires-clause-kept
find-requires-clause-kept g c =
    let again : c.as_slice-levels.result.now ≡ c.args.self.now.scopes = c.as_slice-levels.ensures.value ∙ ap (λ (x : Open). x.scopes) c.self.view_is in
    rw again c.requires.kept

pub returns-clause-finds : goal.returns-clause-finds
returns-clause-finds g c =
    let p : Problem = problem_of c.args.store.now in
    let scs : List Scope = c.args.self.now.scopes in
    let a : List ℕ = scope_assumed scs in
    let given : c.as_slice-4.result.now ≡ a ++ c.args.assumed.now = c.as_slice-4.ensures ∙ c.in_ok-append.ensures.ok ∙ ap (λ xs. xs ++ c.as_slice-2.result.now) (c.in_ok-push_assumed.ensures.ok ∙ ap (λ xs. xs ++ a) c.new-given.ensures) ∙ ap (λ ys. a ++ ys) c.as_slice-2.ensures in
    let levels : c.as_slice.result.now ≡ scs = c.as_slice.ensures.value ∙ ap (λ (x : Open). x.scopes) c.self.view_is in
    let again : c.as_slice-levels.result.now ≡ c.args.self.now.scopes = c.as_slice-levels.ensures.value ∙ ap (λ (x : Open). x.scopes) c.self.view_is in
    let none : ¬ SomeFailed scs = subst (λ s. ¬ SomeFailed s) levels c.in-None.ensures.none in
    IfOk-weaker c.find.result (Closes p c.as_slice-4.result.now (scope_listed c.as_slice-levels.result.now)) (Finds p scs c.args.assumed.now)
    (λ o h. finds_of p scs c.args.assumed.now o none (subst (λ (s : List Scope). Closes p (a ++ c.args.assumed.now) (scope_listed s) o) again (subst (λ xs. Closes p xs (scope_listed c.as_slice-levels.result.now) o) given h)))
    c.find.ensures.closes

pub returns-clause-builds : goal.returns-clause-builds
returns-clause-builds g c =
    let again : c.as_slice-levels.result.now ≡ c.args.self.now.scopes = c.as_slice-levels.ensures.value ∙ ap (λ (x : Open). x.scopes) c.self.view_is in
    IfOk-weaker c.find.result (Builds c.args.store.now c.as_slice-levels.result.now c.as_slice-3.result.now) (Builds c.args.store.now c.args.self.now.scopes c.args.assumed.now)
    (λ o h. subst (λ xs. Builds c.args.store.now c.args.self.now.scopes xs o) c.as_slice-3.ensures (subst (λ (s : List Scope). Builds c.args.store.now s c.as_slice-3.result.now o) again h))
    c.find.ensures.builds

pub returns-clause-little : goal.returns-clause-little
returns-clause-little g c =
    let p : Problem = problem_of c.args.store.now in
    let old : List ℕ = kept_lits c.args.kept in
    let again : c.as_slice-levels.result.now ≡ c.args.self.now.scopes = c.as_slice-levels.ensures.value ∙ ap (λ (x : Open). x.scopes) c.self.view_is in
    IfOk-weaker c.find.result (GrowsLittle p c.as_slice-levels.result.now c.as_slice-3.result.now old) (GrowsLittle p c.args.self.now.scopes c.args.assumed.now old)
    (λ o h. subst (λ xs. GrowsLittle p c.args.self.now.scopes xs old o) c.as_slice-3.ensures (subst (λ (s : List Scope). GrowsLittle p s c.as_slice-3.result.now old o) again h))
    c.find.ensures.little
