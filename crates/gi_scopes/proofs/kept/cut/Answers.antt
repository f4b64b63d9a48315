use Rattle.std.proofs.Common.{◌≡◌, ◌<◌, Option, Some, List, length, take, refl, sym, ◌∙◌, subst, arith}
use Rattle.std.proofs.lemmas.Bool.{lt-ltb}
use Rattle.std.proofs.lemmas.List.{take_all}
use Rattle.gi_prop.specs.TrailView.{cut_at}
use Rattle.gi_model.specs.State.{Scope}
use Rattle.gi_scopes.specs.Built.{IsFor}
use Rattle.gi_scopes.specs.declared.kept.Kept.{Kept}
use Rattle.gi_scopes.proofs.Leveling.{built_cut, covers_cut}
use Rattle.gi_scopes.proofs.kept.cut.Goals as goal

pub returns-then-level-clause-built : goal.returns-then-level-clause-built
returns-then-level-clause-built c scopes s le h =
    let b : IsFor (Some c.in-Some.kept) scopes s = subst (λ (o : Option Kept). IsFor o scopes s) c.in-Some.is h in
    let same : take c.args.level scopes ≡ scopes = take_all c.args.level scopes (omega (arith, le, b.0.count, c.level.ensures.value, c.if-level.true)) in
    subst (λ (xs : List Scope). IsFor (Some c.in-Some.kept) xs s) (sym same) b

pub returns-clause-built : goal.returns-clause-built
returns-clause-built c scopes s le h =
    let b : IsFor (Some c.in-Some.kept) scopes s = subst (λ (o : Option Kept). IsFor o scopes s) c.in-Some.is h in
    let lt : c.args.level < length c.in-Some.kept.trail.level_starts = omega (arith, c.level.ensures.value, c.if-level.false) in
    let e : c.cancel_to.new.self ≡ cut_at c.args.level c.in-Some.kept.trail = c.cancel_to.ensures.after ∙ rw (lt-ltb c.args.level (length c.in-Some.kept.trail.level_starts) lt) refl in
    let goes = c.cancel_to.ensures.goes c.in-Some.kept.prop s b.0.goes in
    (built_cut s scopes c.in-Some.kept b.0 c.level.ensures.trail c.args.level lt c.cancel_to.new.self e goes, covers_cut s scopes c.in-Some.kept b.0 c.level.ensures.trail c.args.level lt c.cancel_to.new.self e goes b.1)
