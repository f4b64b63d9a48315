use Rattle.std.proofs.Common.{◌≡◌, ◌++◌, take, ap, sym, ◌∙◌}
use Rattle.gi_model.specs.State.{Scope, scope_assumed}
use Rattle.gi_reference.proofs.Levels.{scope_assumed-more}
use Rattle.gi_reference.proofs.scopes.assumptions.Goals as goal

pub loop-level-init : goal.loop-level-init
unfolding scope_assumed
loop-level-init c = c.new-all.ensures

pub loop-level-preserved : goal.loop-level-preserved
loop-level-preserved c =
    let m = scope_assumed-more c.args.levels.now c.loop-level.level-index c.level-item.result c.loop-level-test.true c.level-item.is in
    let v : c.level.inside.assumed ≡ c.level-item.result.assumed = ap (λ (x : Scope). x.assumed) c.level.view_is in
    let e : c.append.new.to ≡ c.loop-level.all ++ c.as_slice.result.now = c.in_ok-append.ensures in
    e ∙ ap (λ ls. ls ++ c.as_slice.result.now) c.loop-level.invariant ∙ ap (λ ls. scope_assumed (take c.loop-level.level-index c.args.levels.now) ++ ls) (c.as_slice.ensures ∙ v) ∙ sym m
