use Rattle.std.proofs.Common.{◌≡◌, ◌++◌, take, ap, sym, ◌∙◌}
use Rattle.gi_model.specs.State.{scope_listed}
use Rattle.gi_reference.proofs.Levels.{scope_listed-more}
use Rattle.gi_reference.proofs.scopes.listed.Goals as goal

pub loop-level-init : goal.loop-level-init
unfolding scope_listed
loop-level-init c = c.new-all.ensures

pub loop-level-preserved : goal.loop-level-preserved
loop-level-preserved c =
    let m = scope_listed-more c.args.levels.now c.loop-level.level-index c.level-item.result c.loop-level-test.true c.level-item.is in
    let e : c.append.new.to ≡ c.loop-level.all ++ c.listed.result.now = c.in_ok-append.ensures in
    e ∙ ap (λ ls. ls ++ c.listed.result.now) c.loop-level.invariant ∙ ap (λ ls. scope_listed (take c.loop-level.level-index c.args.levels.now) ++ ls) c.listed.ensures ∙ sym m
