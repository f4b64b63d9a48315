use Rattle.std.proofs.Common.{ℕ, inr, subst}
use Rattle.gi_cdcl.specs.Values.{IsAssignment}
use Rattle.gi_cdcl.proofs.Going.{leads_decided}
use Rattle.gi_cdcl.proofs.Ending.{model_stored}
use Rattle.gi_cdcl.proofs.step.decide_variable.Goals as goal

pub returns-in_ok-decide-in-Some-clause-leads : goal.returns-in_ok-decide-in-Some-clause-leads
returns-in_ok-decide-in-Some-clause-leads c assumed lits g all =
    leads_decided c.args.state.now.prop c.args.store.now c.args.state.now.trail assumed c.args.state.now.vars_passed lits c.level-level.ensures.trail g c.requires.closed c.decide.new.self c.in-Some.l c.free_literal.new.passed lits c.in_ok-decide-in-Some.ensures.ok (inr all) (record { vars_are = c.in-Some.ensures.passed; lits_are = g.passed.lits_are }) c.decide.ensures.goes c.in_ok-decide-in-Some.ensures.room

pub returns-in_ok-values-in-None-clause-leads : goal.returns-in_ok-values-in-None-clause-leads
returns-in_ok-values-in-None-clause-leads c assumed lits g all = (
  g.tied,
  g.ready.sound,
  model_stored c.args.store.now c.args.state.now.trail.lits assumed c.in_ok-values-in-None.values c.vars-vars.ensures.whole g.known g.within all c.requires.closed c.in-None.ensures.full (subst (λ (n : ℕ). IsAssignment n c.args.state.now.trail.lits c.in_ok-values-in-None.values) c.vars-vars.ensures.value c.in_ok-values-in-None.ensures),
)
