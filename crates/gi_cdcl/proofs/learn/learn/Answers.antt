use Rattle.std.proofs.Common.{◌∙◌}
use Rattle.gi_cdcl.proofs.Stores.{all_within_more}
use Rattle.gi_cdcl.proofs.Trails.{cancelled_is}
use Rattle.gi_cdcl.proofs.Going.{learnt_within, learnt_fresh, learnt_nonempty, going_jump, adds_learnt}
use Rattle.gi_cdcl.proofs.learn.learn.Goals as goal

pub analyze-requires-clause-within : goal.analyze-requires-clause-within
analyze-requires-clause-within c = all_within_more c.args.store.now c.vars-vars.ensures.whole c.args.state.now.trail.vars c.requires.tied.room

pub add_clause-requires-clause-within : goal.add_clause-requires-clause-within
add_clause-requires-clause-within c =
    let q = c.requires.conflict in
    learnt_within c.args.store.now c.vars-vars.ensures.whole.well_formed c.requires.known c.args.state.now.trail c.level-level.ensures.trail c.requires.ready c.requires.deep c.args.conflict q.clause q.held q.falsified c.in_ok-learnt.learnt.clause (c.in_ok-learnt.ensures.uip q.clause q.held)

pub add_clause-requires-clause-fresh : goal.add_clause-requires-clause-fresh
add_clause-requires-clause-fresh c =
    let q = c.requires.conflict in
    learnt_fresh c.args.store.now c.vars-vars.ensures.whole.well_formed c.requires.known c.args.state.now.trail c.level-level.ensures.trail c.requires.ready c.requires.deep c.args.conflict q.clause q.held q.falsified c.in_ok-learnt.learnt.clause (c.in_ok-learnt.ensures.uip q.clause q.held)

pub returns-clause-adds : goal.returns-clause-adds
returns-clause-adds c =
    let q = c.requires.conflict in
    adds_learnt c.args.news.now.items c.add_clause.new.news.items c.in_ok-learnt.learnt.clause c.in_ok-add_clause.ensures.news
    (learnt_nonempty c.args.store.now c.vars-vars.ensures.whole.well_formed c.requires.known c.args.state.now.trail c.level-level.ensures.trail c.requires.ready c.requires.deep c.args.conflict q.clause q.held q.falsified c.in_ok-learnt.learnt.clause (c.in_ok-learnt.ensures.uip q.clause q.held))

pub returns-clause-going : goal.returns-clause-going
returns-clause-going c assumed led within passed =
    let q = c.requires.conflict in
    let j = c.in_ok-learnt.ensures.jump in
    let s = c.in_ok-add_clause.ensures.stored in
    going_jump c.args.store.now c.vars-vars.ensures.whole.well_formed c.requires.known c.args.state.now.trail c.level-level.ensures.trail c.requires.ready c.requires.deep c.args.conflict q.clause q.held q.falsified c.in_ok-learnt.learnt.clause (c.in_ok-learnt.ensures.uip q.clause q.held)
    c.args.state.now.prop c.add_clause.new.prop c.add_clause.new.store c.cancel_to.new.self s.0 c.in_ok-learnt.learnt.level c.args.state.now.vars_passed c.still_passed-state.result c.unassign-least.result c.still_true-state.result assumed c.still_true-state.ensures j s.1 (c.cancel_to.ensures.after ∙ cancelled_is c.in_ok-learnt.learnt.level c.args.state.now.trail j.below) c.in_ok-add_clause.ensures.tied led within passed c.still_passed-state.ensures.0 c.still_passed-state.ensures.1
    (λ k le lt. c.unassign-least.ensures k (rw c.start_of-start.ensures le) lt)
