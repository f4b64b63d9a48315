use Rattle.std.proofs.Common.{◌≡◌, ◌<◌, ℕ, [], List, length, get_or, sym, ap, ◌∙◌, subst, arith}
use Rattle.std.proofs.lemmas.List.{get_or_read}
use Rattle.gi_model.specs.State.{scope_listed}
use Rattle.gi_model.specs.Tests.{Explains}
use Rattle.gi_scopes.specs.Open.{Open, asked}
use Rattle.gi_scopes.specs.Kept.{IsOpen}
use Rattle.gi_scopes.proofs.Placing.{explains, listed_at}
use Rattle.gi_scopes.proofs.scopes.Scopes.reasons.Goals as goal

pub returns-in-Ok : goal.returns-in-Ok
returns-in-Ok c =
    let o : Open = c.args.self.now in
    let levels : c.as_slice.result.now ≡ o.scopes = c.as_slice.ensures.value ∙ ap (λ (x : Open). x.scopes) c.self.view_is in
    let lt : c.in-Some.place < length (scope_listed o.scopes) = subst (λ s. c.in-Some.place < length (scope_listed s)) levels c.in-Some.ensures.below in
    let at : get_or (scope_listed o.scopes) c.in-Some.place 0 ≡ c.args.m = subst (λ s. get_or (scope_listed s) c.in-Some.place 0 ≡ c.args.m) levels c.in-Some.ensures.at in
    let kept : IsOpen o.scopes o.reasons = subst (λ (x : Open). IsOpen x.scopes x.reasons) c.self.view_is c.self.invariant.0 in
    let index : c.index.result.now ≡ get_or o.reasons c.in-Some.place c.index.result.now = subst (λ (x : Open). c.index.result.now ≡ get_or x.reasons c.in-Some.place c.index.result.now) c.self.view_is c.index.ensures in
    let rs : c.in-Ok.reasons ≡ get_or o.reasons c.in-Some.place [] = c.in-Ok.ensures ∙ get_or_read o.reasons c.in-Some.place c.index.result.now (omega (arith, lt, kept.earlier.count)) index [] in (
      listed_at o.scopes c.in-Some.place c.args.m lt at,
      λ p a. subst (λ (ls : List ℕ). Explains (asked p o.scopes []) c.args.m ls) (sym rs) (explains p o kept a c.in-Some.place c.args.m lt at),
    )
