use Rattle.gi_room.proofs.Calling.{calls, going_on, holds_both}
use Rattle.gi_room.proofs.Lacking.{needs_none}
use Rattle.gi_room.proofs.room.Room.call.Goals as goal

pub returns-in-Some-clause-holds : goal.returns-in-Some-clause-holds
returns-in-Some-clause-holds g c = holds_both c.args.pass.now c.turns.pass c.take_turn.new.pass c.turns.invariant.going.holds c.in-Some.ensures.holds

pub returns-in-Some-clause-memory : goal.returns-in-Some-clause-memory
returns-in-Some-clause-memory g c = needs_none c.args.call.now c.in-Some.reply c.args.pass.now c.take_turn.new.pass
    (calls c.args.call.now c.in-Some.reply c.args.pass.now c.turns.pass c.take_turn.new.pass c.turns.invariant.going c.in-Some.ensures)

pub returns-in-Some-clause-calls : goal.returns-in-Some-clause-calls
returns-in-Some-clause-calls g c = calls c.args.call.now c.in-Some.reply c.args.pass.now c.turns.pass c.take_turn.new.pass c.turns.invariant.going c.in-Some.ensures

pub turns-preserved : goal.turns-preserved
turns-preserved g c = record {
  going = going_on c.args.call.now c.args.pass.now c.turns.pass c.take_turn.new.pass c.turns.invariant.going c.in-None.ensures;
  legal = c.in-None.ensures.works.adds.legal;
}
