use Rattle.std.proofs.Common.{◌≡◌, ◌⊎◌, Option, [], length, sym, ap, subst, arith}
use Rattle.std.specs.Option.{IsSome}
use Rattle.gi_store.specs.StoreView.{problem_of}
use Rattle.gi_scopes.specs.Under.{base_of}
use Rattle.gi_scopes.specs.Built.{IsFor, kept_lits}
use Rattle.gi_scopes.specs.Open.{Open, AreReasoned}
use Rattle.gi_scopes.specs.Listing.{Finds, Counts, GrowsLittle}
use Rattle.gi_scopes.specs.declared.kept.Kept.{Kept}
use Rattle.gi_scopes.specs.declared.outcome.Outcome.TheVariants.{Listed, Failing}
use Rattle.gi_scopes.proofs.Few.{kept_knows}
use Rattle.gi_scopes.proofs.scopes.Scopes.test.Goals as goal

pub returns-in-Ok-open_failing-clause-answers : goal.returns-in-Ok-open_failing-clause-answers
returns-in-Ok-open_failing-clause-answers g c =
    let p = problem_of c.args.store.now in
    rw c.in-Ok-open_failing.ensures.told (subst (λ (o : Open). Finds p o.scopes c.args.assumed (Failing c.in-Ok-Failing.w)) c.self.view_is (subst (Finds p c.self.inside.levels.items c.args.assumed) c.in-Ok-Failing.field-0-is c.in-Ok-Failing.ensures.finds))

pub returns-in-Ok-open_failing-clause-reasons : goal.returns-in-Ok-open_failing-clause-reasons
returns-in-Ok-open_failing-clause-reasons g c h = c.in-Ok-open_failing.ensures.reasons (problem_of c.args.store.now) (subst (AreReasoned (problem_of c.args.store.now)) (sym c.self.view_is) h)

pub returns-in-Ok-clause-reasons : goal.returns-in-Ok-clause-reasons
returns-in-Ok-clause-reasons g c h =
    let p = problem_of c.args.store.now in
    let new : AreReasoned p c.open_listing.new.self = c.in-Ok.ensures.reasons p c.in-Ok-Listed.kept (subst (Finds p c.self.inside.levels.items c.args.assumed) c.in-Ok-Listed.field-0-is c.in-Ok-Listed.ensures.finds) (subst (AreReasoned p) (sym c.self.view_is) h) in
    subst (AreReasoned p) (sym c.self-in-Ok-Listed.view_is) new

pub returns-in-Ok-clause-few : goal.returns-in-Ok-clause-few
returns-in-Ok-clause-few g c from reasoned =
    let s = c.args.store.now in
    let o : Open = record { scopes = c.self.inside.levels.items; reasons = c.self.inside.reasons.items; kept = c.self.inside.kept } in
    let old : Option Kept = c.replace-kept.result in
    let little : GrowsLittle (problem_of s) o.scopes c.args.assumed (kept_lits old) (Listed c.in-Ok-Listed.listing c.in-Ok-Listed.kept) = subst (GrowsLittle (problem_of s) o.scopes c.args.assumed (kept_lits old)) c.in-Ok-Listed.field-0-is c.in-Ok-Listed.ensures.little in
    let counts : Counts (length (kept_lits old)) c.args.steps.now c.find.new.steps (Listed c.in-Ok-Listed.listing c.in-Ok-Listed.kept) = subst (Counts (length (kept_lits old)) c.args.steps.now c.find.new.steps) c.in-Ok-Listed.field-0-is c.in-Ok-Listed.ensures.counts in
    let for : IsFor old o.scopes (base_of s) = subst (λ (k : Option Kept). IsFor k o.scopes (base_of s)) (sym c.replace-kept.ensures.value) (subst (λ (x : Open). IsFor x.kept x.scopes (base_of s)) (sym c.self.view_is) c.requires.kept) in
    let before : IsSome old ⊎ (o.scopes ≡ []) = subst (λ (k : Option Kept). IsSome k ⊎ (o.scopes ≡ [])) (sym c.replace-kept.ensures.value) (subst (λ (x : Open). IsSome x.kept ⊎ (x.scopes ≡ [])) (sym c.self.view_is) from) in
    let few = little (kept_knows s o.scopes o.reasons old for before (subst (AreReasoned (problem_of s)) (sym c.self.view_is) reasoned) c.self.invariant.0.earlier) in
    omega (arith, few, counts, ap length c.in-Ok.ensures.told)
