use Rattle.std.proofs.Common.{◌≡◌, sym, ap, ◌∙◌, subst}
use Rattle.std.specs.List.{list_any}
use Rattle.gi_lit.specs.Problem.{has}
use Rattle.gi_lit.proofs.Vars.{Contains-from_has, has-from_Contains}
use Rattle.gi_model.specs.State.{Scope, listed_in, scope_listed}
use Rattle.gi_scopes.specs.Open.{Open}
use Rattle.gi_scopes.proofs.Listing.{lists_any}
use Rattle.gi_scopes.proofs.scopes.Scopes.lists.Goals as goal

pub returns : goal.returns
returns c =
    let e : c.is_listed.result ≡ has (scope_listed c.self.inside.levels.items) c.args.m = c.is_listed.ensures ∙ ap (list_any (λ (sc : Scope). has (listed_in sc.found) c.args.m)) c.as_slice.ensures.value ∙ lists_any c.self.inside.levels.items c.args.m in
    let f : c.is_listed.result ≡ has (scope_listed c.args.self.now.scopes) c.args.m = subst (λ (o : Open). c.is_listed.result ≡ has (scope_listed o.scopes) c.args.m) c.self.view_is e in
    (λ t. Contains-from_has (scope_listed c.args.self.now.scopes) c.args.m (sym f ∙ t), λ h. f ∙ has-from_Contains (scope_listed c.args.self.now.scopes) c.args.m h)
