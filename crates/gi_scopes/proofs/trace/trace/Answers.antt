use Rattle.std.proofs.Common.{◌≡◌, ◌+◌, ◌-◌, ◌<◌, length, ◌∙◌, subst, arith}
use Rattle.gi_store.specs.StoreView.{problem_of}
use Rattle.gi_scopes.specs.Under.{base_of}
use Rattle.gi_scopes.specs.Traced.{LeadsToFalse}
use Rattle.gi_scopes.proofs.Tracing.{TracedTo, lead_start, traced_more}
use Rattle.gi_scopes.proofs.trace.trace.Goals as goal

pub loop-at-init : goal.loop-at-init
loop-at-init c = rw c.lits-at.ensures.value (record {
  count = c.mark.ensures.kept.count ∙ c.requires.count;
  high = omega arith;
  own = c.mark.ensures.seen;
  leads = λ given r. lead_start (problem_of (base_of c.args.store.now)) c.args.trail.now.lits given c.args.clause.now c.mark.new.seen c.requires.falsified c.mark.ensures.seen;
})

pub resolve-requires-clause-reached : goal.resolve-requires-clause-reached
resolve-requires-clause-reached c = (c.requires.reached.0, c.requires.reached.1.each (c.loop-at.at - 1) (omega (arith, c.loop-at-test.true, c.loop-at.invariant.high)))

pub loop-at-preserved : goal.loop-at-preserved
loop-at-preserved c =
    let h = c.loop-at.invariant in
    let up : c.loop-at.at ≡ (c.loop-at.at - 1) + 1 = omega (arith, c.loop-at-test.true) in
    let lt : c.loop-at.at - 1 < length c.args.trail.now.lits = omega (arith, c.loop-at-test.true, h.high) in
    traced_more (base_of c.args.store.now) c.args.trail.now c.args.clause.now c.loop-at.seen c.resolve.new.seen (c.loop-at.at - 1) lt (subst (TracedTo (base_of c.args.store.now) c.args.trail.now c.args.clause.now c.loop-at.seen) up h) c.resolve.ensures.kept c.resolve.ensures.resolved

pub returns-clause-leads : goal.returns-clause-leads
returns-clause-leads c given r =
    let z : c.loop-at.at ≡ 0 = omega (arith, c.loop-at-test.false) in
    subst (LeadsToFalse (problem_of (base_of c.args.store.now)) given c.args.trail.now.lits c.loop-at.seen c.args.clause.now) z (c.loop-at.invariant.leads given r)
