use Rattle.std.proofs.Common.{◌≡◌, ◌++◌, map, ap, sym, ◌∙◌, arith}
use Rattle.gi_model.specs.declared.calls.Call.TheVariants.{Add}
use Rattle.gi_drill.specs.Generator.{state_after}
use Rattle.gi_drill.specs.Instance.{chosen, clause_at, first_clauses, first_values, mended}
use Rattle.gi_drill.specs.Script.{lines_text}
use Rattle.gi_drill.proofs.Drawing.{clause_is, clauses_are, six_more}
use Rattle.gi_drill.proofs.Texts.{adds_step}
use Rattle.gi_drill.proofs.script.put_clauses.Goals as goal

pub loop-i-preserved : goal.loop-i-preserved
loop-i-preserved c = (
  adds_step (clause_at c.args.seed) c.args.out.now c.loop-i.out c.put_clause.new.out c.loop-i._i (mended c.in_ok-plan.plan (chosen c.loop-i.generator)) c.loop-i.invariant.0
      (clause_is c.args.seed c.loop-i._i c.loop-i.generator c.in_ok-plan.plan (c.in_ok-plan.ensures.plan ∙ ap (λ s. first_values s 150) c.new-generator.ensures) c.loop-i.invariant.1) c.in_ok-put_clause.ensures.text,
  c.in_ok-put_clause.ensures.state ∙ ap (state_after 6) c.loop-i.invariant.1 ∙ six_more c.args.seed c.loop-i._i,
)

pub returns : goal.returns
returns c =
    let all : c.loop-i._i ≡ 600 = omega arith in
    c.loop-i.invariant.0 ∙ ap (λ cs. c.args.out.now ++ lines_text (map Add cs)) (sym (clauses_are c.args.seed c.loop-i._i) ∙ ap (first_clauses c.args.seed) all)
