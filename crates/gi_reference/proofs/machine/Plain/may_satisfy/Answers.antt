use Rattle.std.proofs.Common.{◌≡◌, ℕ, Bool, ◌&&◌, List, length, ap, ◌∙◌, sym, subst, arith}
use Rattle.std.specs.List.{list_all}
use Rattle.gi_lit.specs.Problem.{Problem, in_force}
use Rattle.gi_lit.specs.Truth.{true_in, clause_true}
use Rattle.gi_model.specs.State.{State}
use Rattle.gi_reference.proofs.Working.{model_decides}
use Rattle.gi_reference.proofs.machine.Plain.may_satisfy.Goals as goal

pub returns : goal.returns
returns c =
    let problem : c.self.inside.store ≡ c.args.self.now.problem = ap (λ (s : State). s.problem) c.self.view_is in
    let vars : c.vars.result ≡ c.args.self.now.problem.vars = c.vars.ensures ∙ ap (λ (p : Problem). p.vars) problem in
    let n : length c.args.values.now ≡ c.args.self.now.problem.vars = omega arith in
    let forced : c.as_slice-3.result.now ≡ in_force c.args.self.now.problem c.args.assumed.now = c.as_slice-3.ensures.value ∙ c.in_ok-forced.ensures ∙ ap (λ p. in_force p c.as_slice.result.now) problem ∙ ap (in_force c.args.self.now.problem) c.as_slice.ensures in
    let P : List Bool → List ℕ → Type 0 = λ vs ls. c.is_model.result ≡ (list_all (clause_true vs) c.as_slice-3.result.now && list_all (true_in vs) ls) in
    let d = subst (λ vs. P vs c.args.assumed.now) c.as_slice-2.ensures (subst (P c.as_slice-2.result.now) c.as_slice-4.ensures c.is_model.ensures) in
    model_decides c.args.self.now c.args.assumed.now c.args.values.now c.as_slice-3.result.now c.is_model.result n forced d
