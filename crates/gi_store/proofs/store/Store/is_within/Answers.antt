use Rattle.std.proofs.Common.{◌≤◌, ◌/◌, arith, refl, subst}
use Rattle.std.specs.List.{All}
use Rattle.std.proofs.lemmas.List.{get_or_read, take_all}
use Rattle.std.proofs.lemmas.List.Elements.{All-more}
use Rattle.gi_store.proofs.store.Store.is_within.Goals as goal

pub loop-l-preserved : goal.loop-l-preserved
loop-l-preserved c =
    let v = c.var.ensures in
    let p : (1 ≤ c.l-item.result / 2) × (c.l-item.result / 2 ≤ c.args.self.now.vars) = (omega (arith, v, c.index.ensures.value, c.index.ensures.low), omega (arith, v, c.index.ensures.value, c.vars.ensures.value, c.if-index-vars.false)) in
    All-more (λ x. (1 ≤ x / 2) × (x / 2 ≤ c.args.self.now.vars)) c.args.c.now c.loop-l.l-index 0 c.loop-l-test.true c.loop-l.invariant
    (subst (λ x. (1 ≤ x / 2) × (x / 2 ≤ c.args.self.now.vars)) (get_or_read c.args.c.now c.loop-l.l-index c.l-item.result c.loop-l-test.true c.l-item.is 0) p)

pub returns : goal.returns
returns c = (λ t. subst (All (λ x. (1 ≤ x / 2) × (x / 2 ≤ c.args.self.now.vars))) (take_all c.loop-l.l-index c.args.c.now c.loop-l-test.false) c.loop-l.invariant, λ h. refl)
