use Rattle.std.proofs.Common.{◌≡◌, ◌↔◌, false, IsTrue, IfOk, ℕ, List, ap, ◌∙◌, subst, sym}
use Rattle.std.specs.List.{list_any}
use Rattle.gi_lit.specs.Problem.{Problem, full}
use Rattle.gi_model.specs.State.{State, Scope}
use Rattle.gi_model.specs.Tests.{before, Explains}
use Rattle.gi_reference.specs.Search.{explains}
use Rattle.gi_reference.proofs.Deciding.{no, not_so}
use Rattle.gi_reference.proofs.Explaining.{explains_decides, not_earlier}
use Rattle.gi_reference.proofs.machine.Plain.may_explain.Goals as goal

pub returns-then-not-is_distinct : goal.returns-then-not-is_distinct
returns-then-not-is_distinct c =
    let P : List ℕ → Type 0 = λ ls. IsTrue false ↔ Explains c.args.self.now c.args.m ls in
    subst P c.as_slice-wanted.ensures (no (λ x. not_so c.is_distinct.result c.is_distinct.ensures (sym c.if-not-is_distinct.true) x.distinct))

pub returns-then-not-has_all : goal.returns-then-not-has_all
returns-then-not-has_all c =
    let earlier : c.as_slice-2.result.now ≡ before c.args.self.now.scopes c.args.m = c.as_slice-2.ensures ∙ c.in_ok-earlier.ensures ∙ ap (λ scs. before scs c.args.m) (c.as_slice.ensures.value ∙ ap (λ (s : State). s.scopes) c.self.view_is) in
    let P : List ℕ → Type 0 = λ ls. IsTrue false ↔ Explains c.args.self.now c.args.m ls in
    subst P c.as_slice-wanted.ensures (no (not_earlier c.args.self.now c.args.m c.as_slice-wanted.result.now c.as_slice-2.result.now earlier c.if-not-has_all.ensures))

pub returns : goal.returns
returns c =
    let earlier : c.as_slice-2.result.now ≡ before c.args.self.now.scopes c.args.m = c.as_slice-2.ensures ∙ c.in_ok-earlier.ensures ∙ ap (λ scs. before scs c.args.m) (c.as_slice.ensures.value ∙ ap (λ (s : State). s.scopes) c.self.view_is) in
    let whole : c.as_slice-3.result.now ≡ full c.args.self.now.problem = c.as_slice-3.ensures.value ∙ c.in_ok-whole.ensures ∙ ap (λ (s : State). full s.problem) c.self.view_is in
    let P : List ℕ → Type 0 = λ ls. IsTrue c.is_explained.result ↔ Explains c.args.self.now c.args.m ls in
    subst P c.as_slice-wanted.ensures (explains_decides c.args.self.now c.args.m c.as_slice-wanted.result.now c.as_slice-3.result.now c.as_slice-2.result.now c.is_explained.result whole earlier c.is_explained.ensures (c.is_distinct.ensures.0 c.if-not-is_distinct.false) c.if-not-has_all.ensures)
