use Rattle.gi_room.proofs.Turning.{has_turn, has_waited, no_fresh}
use Rattle.gi_room.proofs.turn.begin.Goals as goal

pub returns-clause-turn : goal.returns-clause-turn
returns-clause-turn g c = has_turn _ _ _ _ c.enter.ensures.entered c.requires.kept c.enter.ensures.stands.turns

pub returns-clause-waited : goal.returns-clause-waited
returns-clause-waited g c = has_waited _ _ _ _ c.enter.ensures.entered c.requires.left

pub returns-clause-fresh : goal.returns-clause-fresh
returns-clause-fresh g c = no_fresh _ _ _ _ c.enter.ensures.entered
