use Rattle.std.proofs.lemmas.Result.{IfOk-weaker}
use Rattle.gi_cdcl.proofs.Going.{going_grows, closed_of, closed_full}
use Rattle.gi_cdcl.proofs.Stepping.{leads_on}
use Rattle.gi_cdcl.proofs.step.take_step.Goals as goal

pub handle_conflict-requires-clause-ready : goal.handle_conflict-requires-clause-ready
handle_conflict-requires-clause-ready c =
    let e = c.args.state.now in
    (going_grows e.prop c.propagate.new.self c.args.store.now e.trail c.propagate.new.trail c.args.assumed.now e.vars_passed e.assumed_passed c.level-level.ensures.trail c.requires c.propagate.ensures.keys c.propagate.ensures.goes c.propagate.ensures.adds).ready

pub decide_next-requires-clause-going : goal.decide_next-requires-clause-going
decide_next-requires-clause-going c =
    let e = c.args.state.now in
    going_grows e.prop c.propagate.new.self c.args.store.now e.trail c.propagate.new.trail c.args.assumed.now e.vars_passed e.assumed_passed c.level-level.ensures.trail c.requires c.propagate.ensures.keys c.propagate.ensures.goes c.propagate.ensures.adds

pub decide_next-requires-clause-closed : goal.decide_next-requires-clause-closed
decide_next-requires-clause-closed c =
    let e = c.args.state.now in
    let g = going_grows e.prop c.propagate.new.self c.args.store.now e.trail c.propagate.new.trail c.args.assumed.now e.vars_passed e.assumed_passed c.level-level.ensures.trail c.requires c.propagate.ensures.keys c.propagate.ensures.goes c.propagate.ensures.adds in
    closed_of c.propagate.new.self c.args.store.now c.propagate.new.trail g.tied.attached c.in-None.ensures.closed

pub returns-in-Some-clause-leads : goal.returns-in-Some-clause-leads
returns-in-Some-clause-leads c =
    let e = c.args.state.now in
    let n = c.handle_conflict.new.state in
    let g = going_grows e.prop c.propagate.new.self c.args.store.now e.trail c.propagate.new.trail c.args.assumed.now e.vars_passed e.assumed_passed c.level-level.ensures.trail c.requires c.propagate.ensures.keys c.propagate.ensures.goes c.propagate.ensures.adds in
    IfOk-weaker c.handle_conflict.result _ _ (λ s leads. leads_on c.propagate.new.self c.args.store.now e.trail c.propagate.new.trail c.propagate.ensures.adds n.prop c.handle_conflict.new.store n.trail c.args.assumed.now n.vars_passed n.assumed_passed s (leads c.args.assumed.now g.led g.within g.passed.vars_are)) c.handle_conflict.ensures.leads

pub returns-in-None-clause-leads : goal.returns-in-None-clause-leads
returns-in-None-clause-leads c =
    let e = c.args.state.now in
    let n = c.decide_next.new.state in
    IfOk-weaker c.decide_next.result _ _ (λ s leads. leads_on c.propagate.new.self c.args.store.now e.trail c.propagate.new.trail c.propagate.ensures.adds n.prop c.args.store.now n.trail c.args.assumed.now n.vars_passed n.assumed_passed s leads) c.decide_next.ensures.leads

pub returns-in-None-clause-adds : goal.returns-in-None-clause-adds
returns-in-None-clause-adds c = IfOk-weaker c.decide_next.result _ _ (λ s adds. adds c.args.news.now.items) c.decide_next.ensures.adds

pub returns-in-None-clause-root : goal.returns-in-None-clause-root
returns-in-None-clause-root c =
    let e = c.args.state.now in
    let g = going_grows e.prop c.propagate.new.self c.args.store.now e.trail c.propagate.new.trail c.args.assumed.now e.vars_passed e.assumed_passed c.level-level.ensures.trail c.requires c.propagate.ensures.keys c.propagate.ensures.goes c.propagate.ensures.adds in
    let closed = closed_of c.propagate.new.self c.args.store.now c.propagate.new.trail g.tied.attached c.in-None.ensures.closed in
    IfOk-weaker c.decide_next.result _ _ (λ s adds none. absurd (closed_full c.args.store.now c.propagate.new.trail.lits closed none)) c.decide_next.ensures.adds
