use Rattle.std.proofs.Common.{ℕ, length, inl, subst, sym}
use Rattle.std.specs.Result.{IfOk}
use Rattle.std.proofs.lemmas.Result.{IfOk-weaker}
use Rattle.gi_cdcl.specs.Steps.{LeadsTo}
use Rattle.gi_cdcl.proofs.Stores.{all_within_more}
use Rattle.gi_cdcl.proofs.Going.{leads_decided, going_passed}
use Rattle.gi_cdcl.proofs.Assuming.{next_turn, levels_few}
use Rattle.gi_cdcl.proofs.Ending.{failing_stored}
use Rattle.gi_cdcl.proofs.step.decide_next.Goals as goal

pub analyze_final-requires-clause-within : goal.analyze_final-requires-clause-within
analyze_final-requires-clause-within c = all_within_more c.args.store.now c.vars-vars.ensures.whole c.args.state.now.trail.vars c.requires.going.tied.room

pub returns-in_ok-failing-in-Failed-clause-leads : goal.returns-in_ok-failing-in-Failed-clause-leads
returns-in_ok-failing-in-Failed-clause-leads c = let g = c.requires.going in (
  g.tied,
  g.ready.sound,
  failing_stored c.args.store.now c.args.assumed.now c.in_ok-failing-in-Failed.failing c.vars-vars.ensures.whole.well_formed g.known g.within c.in_ok-failing-in-Failed.ensures.sublist c.in_ok-failing-in-Failed.ensures.conflicts,
)

pub returns-in_ok-decide-in-Free-clause-leads : goal.returns-in_ok-decide-in-Free-clause-leads
returns-in_ok-decide-in-Free-clause-leads c =
    let g = c.requires.going in
    leads_decided c.args.state.now.prop c.args.store.now c.args.state.now.trail c.args.assumed.now c.args.state.now.vars_passed c.args.state.now.assumed_passed c.level-level.ensures.trail g c.requires.closed c.decide.new.self c.in-Free.l c.args.state.now.vars_passed c.next_assumption.new.passed c.in_ok-decide-in-Free.ensures.ok (inl (next_turn c.args.assumed.now c.args.state.now.trail g.led c.next_assumption.new.passed c.in-Free.l c.in-Free.ensures.place c.in-Free.ensures.next.1 c.in-Free.ensures.passed)) (record { vars_are = g.passed.vars_are; lits_are = c.in-Free.ensures.passed }) c.decide.ensures.goes c.in_ok-decide-in-Free.ensures.room

pub returns-in-AllTrue-clause-leads : goal.returns-in-AllTrue-clause-leads
returns-in-AllTrue-clause-leads c =
    let g = c.requires.going in
    let t = c.args.state.now.trail in
    let e = c.decide_variable.new.state in
    subst (λ (n : ℕ). IfOk c.decide_variable.result (LeadsTo t e.prop c.args.store.now e.trail c.args.assumed.now e.vars_passed n)) (sym c.decide_variable.ensures.lits)
    (IfOk-weaker c.decide_variable.result _ _ (λ s leads. leads c.args.assumed.now c.next_assumption.new.passed (going_passed c.args.state.now.prop c.args.store.now t c.args.assumed.now c.args.state.now.vars_passed c.args.state.now.assumed_passed c.args.state.now.vars_passed c.next_assumption.new.passed g (record { vars_are = g.passed.vars_are; lits_are = c.in-AllTrue.ensures.passed })) c.in-AllTrue.ensures.next) c.decide_variable.ensures.leads)

pub decide-requires-clause-levels : goal.decide-requires-clause-levels
decide-requires-clause-levels c = let led = c.requires.going.led in levels_few c.args.state.now.trail.level_starts (length c.args.state.now.trail.lits) led.strict led.within

pub decide_variable-requires-clause-levels : goal.decide_variable-requires-clause-levels
decide_variable-requires-clause-levels c = let led = c.requires.going.led in levels_few c.args.state.now.trail.level_starts (length c.args.state.now.trail.lits) led.strict led.within
