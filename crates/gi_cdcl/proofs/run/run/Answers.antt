use Rattle.std.proofs.Common.{ℕ, List, [], length, ap, subst, arith, rules}
use Rattle.gi_cdcl.specs.Steps.{FindsEmpty}
use Rattle.gi_cdcl.specs.declared.step.StepResult.{StepResult}
use Rattle.gi_cdcl.proofs.Going.{stored_on}
use Rattle.gi_cdcl.proofs.run.run.Goals as goal

pub returns-then-len-bounds-clause-ended : goal.returns-then-len-bounds-clause-ended
returns-then-len-bounds-clause-ended g c = record {
  finishes = search rules;
  asks = search rules;
  asks_root = λ ne e.
      let r = c.in_ok-take_step.ensures.root (stored_on c.args.store.now c.steps.store c.steps.progress.news.items c.steps.invariant.learnt [] e) in
      absurd (subst (λ (s : StepResult). FindsEmpty c.steps.progress.news.items c.take_step.new.news.items s) c.in-Learnt.is r);
  attached = search rules;
  sound = search rules;
}

pub returns-in-Refuted-clause-ended : goal.returns-in-Refuted-clause-ended
returns-in-Refuted-clause-ended g c = record {
  finishes = search rules;
  asks = search rules;
  asks_root = λ ne e.
      let r = c.in_ok-take_step.ensures.root (stored_on c.args.store.now c.steps.store c.steps.progress.news.items c.steps.invariant.learnt [] e) in
      let same = subst (λ (s : StepResult). FindsEmpty c.steps.progress.news.items c.take_step.new.news.items s) c.in-Refuted.is r in
      let n = ap (λ (xs : List (List ℕ)). length xs) same in
      let i = c.steps.invariant.asks in
      omega (arith, n, i, c.ask-in-Refuted.ensures.asks);
  attached = search rules;
  sound = search rules;
}

pub returns-in-Sat-clause-ended : goal.returns-in-Sat-clause-ended
returns-in-Sat-clause-ended g c = record {
  finishes = search rules;
  asks = search rules;
  asks_root = λ ne e.
      let r = c.in_ok-take_step.ensures.root (stored_on c.args.store.now c.steps.store c.steps.progress.news.items c.steps.invariant.learnt [] e) in
      absurd (subst (λ (s : StepResult). FindsEmpty c.steps.progress.news.items c.take_step.new.news.items s) c.in-Sat.is r);
  attached = search rules;
  sound = search rules;
}

pub returns-in-Failed-clause-ended : goal.returns-in-Failed-clause-ended
returns-in-Failed-clause-ended g c = record {
  finishes = search rules;
  asks = search rules;
  asks_root = λ ne e.
      let r = c.in_ok-take_step.ensures.root (stored_on c.args.store.now c.steps.store c.steps.progress.news.items c.steps.invariant.learnt [] e) in
      absurd (subst (λ (s : StepResult). FindsEmpty c.steps.progress.news.items c.take_step.new.news.items s) c.in-Failed.is r);
  attached = search rules;
  sound = search rules;
}
