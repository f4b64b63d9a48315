use Rattle.std.proofs.Common.{rules, [], ◌∷◌, ◌∙◌, append_assoc}
use Rattle.std.specs.Vec.Iter.{into_iter_items}
use Rattle.std.proofs.lemmas.Result.{err_from_is_err_and}
use Rattle.gi_net.specs.Leads.{more, none}
use Rattle.gi_batch.specs.declared.answer.Answer.TheVariants as answers
use Rattle.gi_batch.proofs.Filing.{clauses_fail, clauses_more, done_none, split_more}
use Rattle.gi_batch.proofs.steps.add_clauses.Goals as goal

pub loop-clause-init : goal.loop-clause-init
loop-clause-init g c = record {
  split = search rules;
  led = none;
  done = λ budget v before. done_none budget v (g.C.Caller.standing c.args.caller.now) before;
}

pub loop-clause-preserved : goal.loop-clause-preserved
loop-clause-preserved g c = record {
  split = append_assoc c.loop-clause.yielded (c.in-Some.clause ∷ []) (into_iter_items c.next.new.self) ∙ split_more c.loop-clause.yielded _ _ _ c.in-Some.clause c.loop-clause.invariant.split c.in-Some.ensures.steps.0;
  led = more _ _ c.loop-clause.invariant.led c.in_ok-make.ensures.kept;
  done = λ budget v before. clauses_more budget c.loop-clause.yielded c.in-Some.clause v _ _ _ _ before (c.loop-clause.invariant.done budget v before) c.in_ok-make.ensures.made;
}

pub returns-in_err-make-clause-added : goal.returns-in_err-make-clause-added
returns-in_err-make-clause-added g c =
    let p = err_from_is_err_and c.from_residual.result c.from_residual.ensures.1 in
    rw (p.1, p.2) (λ budget v.
    clauses_fail c.in_err-make.field-0.0 budget c.loop-clause.yielded (into_iter_items c.next.new.self) c.args.clauses c.in-Some.clause v _ _ _ answers.Unknown
    (split_more c.loop-clause.yielded _ _ _ c.in-Some.clause c.loop-clause.invariant.split c.in-Some.ensures.steps.0)
    (c.loop-clause.invariant.done budget v answers.Unknown) c.in_err-make.ensures.made)

pub returns-in_err-make-clause-led : goal.returns-in_err-make-clause-led
returns-in_err-make-clause-led g c = more _ _ c.loop-clause.invariant.led c.in_err-make.ensures.kept
