use Rattle.std.proofs.Common.{◌≡◌, ap, ◌∙◌, subst}
use Rattle.std.specs.List.{list_any}
use Rattle.gi_lit.specs.Problem.{has}
use Rattle.gi_model.specs.State.{State, Scope, listed_in, scope_listed}
use Rattle.gi_reference.proofs.Levels.{lists_any}
use Rattle.gi_reference.proofs.facts.PlainFacts.lists.Goals as goal

pub returns : goal.returns
returns c =
    let P : State → Type 0 = λ s. c.lists.result ≡ has (scope_listed s.scopes) c.args.m in
    subst P c.self.view_is (c.lists.ensures ∙ ap (list_any (λ (sc : Scope). has (listed_in sc.found) c.args.m)) c.as_slice.ensures.value ∙ lists_any _ c.args.m)
