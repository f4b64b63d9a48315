use Rattle.std.proofs.Common.{◌≡◌, ◌++◌, take, sym, ap, ◌∙◌, append_assoc}
use Rattle.std.proofs.lemmas.List.{append-nil}
use Rattle.gi_model.specs.State.{scope_assumed}
use Rattle.gi_scopes.proofs.Listing.{scope_assumed-more}
use Rattle.gi_scopes.proofs.scopes.Scopes.push_assumed.Goals as goal

pub loop-level-init : goal.loop-level-init
unfolding scope_assumed
loop-level-init c = sym (append-nil c.args.to.now)

pub loop-level-preserved : goal.loop-level-preserved
loop-level-preserved c =
    let front = scope_assumed (take c.loop-level.level-index c.deref-level-items.result.now) in
    let m = scope_assumed-more c.deref-level-items.result.now c.loop-level.level-index c.level-item.result c.loop-level-test.true c.level-item.is in
    let e : c.append.new.to ≡ c.loop-level.to ++ c.assumed.result.now = c.in_ok-append.ensures.ok in
    e ∙ ap (λ ls. ls ++ c.assumed.result.now) c.loop-level.invariant ∙ append_assoc c.args.to.now front c.assumed.result.now ∙ ap (λ ls. c.args.to.now ++ (front ++ ls)) c.assumed.ensures ∙ ap (λ ls. c.args.to.now ++ ls) (sym m)
