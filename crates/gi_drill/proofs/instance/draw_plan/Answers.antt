use Rattle.std.proofs.Common.{◌≡◌, ◌+◌, ◌==◌, ap, sym, ◌∙◌, arith, length}
use Rattle.std.proofs.lemmas.List.FromFn.{length-map-range_with_len}
use Rattle.gi_drill.specs.Generator.{draw, next, state_after}
use Rattle.gi_drill.specs.Instance.{first_values}
use Rattle.gi_drill.proofs.Drawing.{state_more, state_none, value_more, values_are}
use Rattle.gi_drill.proofs.instance.draw_plan.Goals as goal

pub loop-v-init : goal.loop-v-init
loop-v-init c = (c.new-values.ensures.items, sym (state_none c.args.generator.now))

pub loop-v-preserved : goal.loop-v-preserved
loop-v-preserved c =
    let stepped = c.draw-value.ensures.state ∙ ap next c.loop-v.invariant.1 in (
      c.in_ok-push.ensures.items ∙ value_more c.args.generator.now c.loop-v._v c.draw-value.result c.draw-value.new.self c.loop-v.values.items c.loop-v.invariant.0 stepped c.draw-value.ensures.value,
      stepped ∙ sym (state_more c.loop-v._v c.args.generator.now),
    )

pub from_vec-requires : goal.from_vec-requires
from_vec-requires c = omega (arith, ap length c.loop-v.invariant.0, length-map-range_with_len (λ v. draw (v + 1) 2 c.args.generator.now == 1) 0 c.loop-v._v)

pub returns-clause-plan : goal.returns-clause-plan
returns-clause-plan c =
    let all : c.loop-v._v ≡ 150 = omega arith in
    c.from_vec.ensures ∙ c.loop-v.invariant.0 ∙ sym (values_are c.args.generator.now c.loop-v._v) ∙ ap (first_values c.args.generator.now) all

pub returns-clause-state : goal.returns-clause-state
returns-clause-state c =
    let all : c.loop-v._v ≡ 150 = omega arith in
    c.loop-v.invariant.1 ∙ ap (λ n. state_after n c.args.generator.now) all

pub returns-clause-count : goal.returns-clause-count
returns-clause-count c = omega (arith, ap length c.from_vec.ensures, ap length c.loop-v.invariant.0, length-map-range_with_len (λ v. draw (v + 1) 2 c.args.generator.now == 1) 0 c.loop-v._v)
