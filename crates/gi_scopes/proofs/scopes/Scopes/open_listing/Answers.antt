use Rattle.std.proofs.Common.{◌≡◌, ◌++◌, ◌∷◌, [], ◌<◌, List, ℕ, length, sym, ap, ◌∙◌, subst}
use Rattle.gi_lit.specs.Problem.{Problem}
use Rattle.gi_model.specs.State.{Scope, listed, scope_assumed, scope_listed}
use Rattle.gi_model.specs.Tests.{Implies}
use Rattle.gi_scopes.specs.Open.{Open, AreExplained, AreReasoned}
use Rattle.gi_scopes.specs.Listing.{AreListed}
use Rattle.gi_scopes.proofs.Opening.{scope_is, open_listing, reasoned_listing}
use Rattle.gi_scopes.proofs.scopes.Scopes.open_listing.Goals as goal

pub invariant_of-self-2 : goal.invariant_of-self-2
invariant_of-self-2 c =
    let scs : List Scope = c.self.inside.levels.items in
    let ls : List ℕ = c.args.listing.lits in
    let sc : c.new.result ≡ record { assumed = c.args.assumed; found = listed ls } = scope_is c.new.result c.args.assumed (listed ls) c.new.ensures.assumed c.new.ensures.found in
    let items : c.push_reserved.new.self.items ≡ scs ++ (record { assumed = c.args.assumed; found = listed ls }) ∷ [] = c.push_reserved.ensures.items ∙ ap (λ xs. xs ++ c.new.result ∷ []) c.in_ok-reserve.ensures.items ∙ ap (λ (s : Scope). scs ++ s ∷ []) sc in
    let room : length scs < 4294967295 = subst (λ (o : Open). length o.scopes < 4294967295) (sym c.self.view_is) c.requires.depth in
    let p : Problem = c.requires.found.0 in
    let i : Implies p (scope_assumed scs ++ c.args.assumed) (scope_listed scs) ls = subst (λ (o : Open). Implies p (scope_assumed o.scopes ++ c.args.assumed) (scope_listed o.scopes) ls) (sym c.self.view_is) c.requires.found.2.0.1 in
    let a : AreListed p (scope_assumed scs ++ c.args.assumed) (scope_listed scs) ls c.args.listing.reasons.items = subst (λ (o : Open). AreListed p (scope_assumed o.scopes ++ c.args.assumed) (scope_listed o.scopes) ls c.args.listing.reasons.items) (sym c.self.view_is) c.requires.found.2.1 in
    (rw (items, c.in_ok-append.ensures.items) (open_listing scs c.self.inside.reasons.items c.self.invariant.0 room c.args.assumed p ls c.args.listing.reasons.items i a), c.self.invariant.1)

pub returns-clause-reasons : goal.returns-clause-reasons
returns-clause-reasons c p k f h =
    let scs : List Scope = c.self.inside.levels.items in
    let ls : List ℕ = c.args.listing.lits in
    let sc : c.new.result ≡ record { assumed = c.args.assumed; found = listed ls } = scope_is c.new.result c.args.assumed (listed ls) c.new.ensures.assumed c.new.ensures.found in
    let items : c.push_reserved.new.self.items ≡ scs ++ (record { assumed = c.args.assumed; found = listed ls }) ∷ [] = c.push_reserved.ensures.items ∙ ap (λ xs. xs ++ c.new.result ∷ []) c.in_ok-reserve.ensures.items ∙ ap (λ (s : Scope). scs ++ s ∷ []) sc in
    let room : length scs < 4294967295 = subst (λ (o : Open). length o.scopes < 4294967295) (sym c.self.view_is) c.requires.depth in
    let i : Implies p (scope_assumed scs ++ c.args.assumed) (scope_listed scs) ls = subst (λ (o : Open). Implies p (scope_assumed o.scopes ++ c.args.assumed) (scope_listed o.scopes) ls) (sym c.self.view_is) f.0.1 in
    let a : AreListed p (scope_assumed scs ++ c.args.assumed) (scope_listed scs) ls c.args.listing.reasons.items = subst (λ (o : Open). AreListed p (scope_assumed o.scopes ++ c.args.assumed) (scope_listed o.scopes) ls c.args.listing.reasons.items) (sym c.self.view_is) f.1 in
    let old : AreExplained p scs c.self.inside.reasons.items = subst (AreReasoned p) (sym c.self.view_is) h in
    rw (items, c.in_ok-append.ensures.items) (reasoned_listing scs c.self.inside.reasons.items c.self.invariant.0 room c.args.assumed p ls c.args.listing.reasons.items i a old)
