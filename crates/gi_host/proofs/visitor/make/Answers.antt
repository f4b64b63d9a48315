use Rattle.std.proofs.Common.{◌<◌, arith}
use Rattle.gi_host.specs.Visits.{visit}
use Rattle.gi_host.proofs.Visiting.{begun_answered, begun_spent, made_answered, made_spent, visited_spent, visits_answered, visits_none}
use Rattle.gi_host.proofs.visitor.make.Goals as goal

pub returns-then-calls_left-eq0-clause-visits : goal.returns-then-calls_left-eq0-clause-visits
returns-then-calls_left-eq0-clause-visits g c = visits_none (visit c.args.pass.now c.args.started.now)

pub returns-in_default-clause-made : goal.returns-in_default-clause-made
returns-in_default-clause-made g c = made_answered c.args.call.now c.call.result c.args.started.now c.args.pass.now c.ask_first.new.pass c.call.new.pass c.ask_first.ensures c.in_default.not-Spent c.call.ensures.calls c.call.ensures.holds c.allowed_is_reply.ensures c.requires.fits

pub returns-in_default-clause-visits : goal.returns-in_default-clause-visits
returns-in_default-clause-visits g c = visits_answered c.args.call.now c.call.result c.args.started.now c.args.pass.now c.ask_first.new.pass c.call.new.pass c.ask_first.ensures c.in_default.not-Spent c.call.ensures.calls c.call.ensures.holds c.knows.ensures.own c.requires.fits c.started_by.result c.started_by.ensures

pub returns-in_default-clause-begun : goal.returns-in_default-clause-begun
returns-in_default-clause-begun g c = begun_answered c.args.call.now c.call.result c.args.started.now c.args.pass.now c.ask_first.new.pass c.call.new.pass c.ask_first.ensures c.in_default.not-Spent c.call.ensures.calls c.call.ensures.holds c.started_by.result c.started_by.ensures c.requires.begun

pub returns-in-Spent-clause-made : goal.returns-in-Spent-clause-made
returns-in-Spent-clause-made g c = made_spent c.args.call.now c.args.started.now c.args.pass.now c.ask_first.new.pass c.call.new.pass c.ask_first.ensures c.in-Spent.ensures.calls

pub returns-in-Spent-clause-visits : goal.returns-in-Spent-clause-visits
returns-in-Spent-clause-visits g c = let some : 0 < c.args.pass.now.left = omega arith in visited_spent c.args.call.now c.args.started.now c.args.pass.now c.ask_first.new.pass c.call.new.pass c.ask_first.ensures c.in-Spent.ensures.calls c.knows.ensures.own some

pub returns-in-Spent-clause-begun : goal.returns-in-Spent-clause-begun
returns-in-Spent-clause-begun g c = begun_spent c.args.call.now c.args.started.now c.args.pass.now c.ask_first.new.pass c.call.new.pass c.ask_first.ensures c.in-Spent.ensures.calls c.requires.begun
