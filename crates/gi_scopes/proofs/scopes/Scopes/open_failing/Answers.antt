use Rattle.std.proofs.Common.{◌≡◌, ◌++◌, ◌∷◌, [], ◌<◌, List, length, sym, ap, ◌∙◌, subst}
use Rattle.gi_lit.specs.Lists.{IsSublist}
use Rattle.gi_model.specs.State.{Scope, failing, scope_assumed}
use Rattle.gi_scopes.specs.Open.{Open, AreExplained, AreReasoned}
use Rattle.gi_scopes.proofs.Opening.{scope_is, open_failing, reasoned_failing}
use Rattle.gi_scopes.proofs.scopes.Scopes.open_failing.Goals as goal

pub invariant_of-self-2 : goal.invariant_of-self-2
invariant_of-self-2 c =
    let scs : List Scope = c.self.inside.levels.items in
    let sc : c.new.result ≡ record { assumed = c.args.assumed; found = failing c.args.w } = scope_is c.new.result c.args.assumed (failing c.args.w) c.new.ensures.assumed c.new.ensures.found in
    let items : c.push_reserved.new.self.items ≡ scs ++ (record { assumed = c.args.assumed; found = failing c.args.w }) ∷ [] = c.push_reserved.ensures.items ∙ ap (λ xs. xs ++ c.new.result ∷ []) c.in_ok-reserve.ensures.items ∙ ap (λ (s : Scope). scs ++ s ∷ []) sc in
    let room : length scs < 4294967295 = subst (λ (o : Open). length o.scopes < 4294967295) (sym c.self.view_is) c.requires.depth in
    let chosen : IsSublist c.args.w (scope_assumed scs ++ c.args.assumed) = subst (λ (o : Open). IsSublist c.args.w (scope_assumed o.scopes ++ c.args.assumed)) (sym c.self.view_is) c.requires.chosen in
    (rw items (open_failing scs c.self.inside.reasons.items c.self.invariant.0 room c.args.assumed c.args.w chosen), c.self.invariant.1)

pub returns-clause-reasons : goal.returns-clause-reasons
returns-clause-reasons c p h =
    let scs : List Scope = c.self.inside.levels.items in
    let sc : c.new.result ≡ record { assumed = c.args.assumed; found = failing c.args.w } = scope_is c.new.result c.args.assumed (failing c.args.w) c.new.ensures.assumed c.new.ensures.found in
    let items : c.push_reserved.new.self.items ≡ scs ++ (record { assumed = c.args.assumed; found = failing c.args.w }) ∷ [] = c.push_reserved.ensures.items ∙ ap (λ xs. xs ++ c.new.result ∷ []) c.in_ok-reserve.ensures.items ∙ ap (λ (s : Scope). scs ++ s ∷ []) sc in
    let room : length scs < 4294967295 = subst (λ (o : Open). length o.scopes < 4294967295) (sym c.self.view_is) c.requires.depth in
    let old : AreExplained p scs c.self.inside.reasons.items = subst (AreReasoned p) (sym c.self.view_is) h in
    rw items (reasoned_failing scs c.self.inside.reasons.items c.self.invariant.0 room c.args.assumed c.args.w p old)
