use Rattle.std.proofs.Common.{refl, sym, subst}
use Rattle.std.proofs.lemmas.Bool.{both_ways}
use Rattle.std.specs.List.{All, Contains}
use Rattle.std.proofs.lemmas.List.{get_or_read, take_all}
use Rattle.std.proofs.lemmas.List.Elements.{All-more}
use Rattle.gi_store.proofs.store.Store.are_active.Goals as goal

pub loop-g-preserved : goal.loop-g-preserved
loop-g-preserved c =
    let p : Contains c.args.self.now.active c.g-item.result = c.is_active.ensures.0 c.if-not-is_active.false in
    All-more (Contains c.args.self.now.active) c.args.guards.now c.loop-g.g-index 0 c.loop-g-test.true c.loop-g.invariant
    (subst (Contains c.args.self.now.active) (get_or_read c.args.guards.now c.loop-g.g-index c.g-item.result c.loop-g-test.true c.g-item.is 0) p)

pub returns-then-not-is_active : goal.returns-then-not-is_active
returns-then-not-is_active c = (
  λ e. absurd (cc e),
  λ a. absurd (both_ways c.is_active.result c.if-not-is_active.true (c.is_active.ensures.1
      (subst (Contains c.args.self.now.active) (sym (get_or_read c.args.guards.now c.loop-g.g-index c.g-item.result c.loop-g-test.true c.g-item.is 0)) (a c.loop-g.g-index 0 c.loop-g-test.true)))),
)

pub returns : goal.returns
returns c = (λ t. subst (All (Contains c.args.self.now.active)) (take_all c.loop-g.g-index c.args.guards.now c.loop-g-test.false) c.loop-g.invariant, λ h. refl)
