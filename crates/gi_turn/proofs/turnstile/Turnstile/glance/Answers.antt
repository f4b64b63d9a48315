use Rattle.std.proofs.Common.{rules}
use Rattle.gi_turn.proofs.Steps.{glances}
use Rattle.gi_turn.proofs.turnstile.Turnstile.glance.Goals as goal

pub load-head-requires : goal.load-head-requires
load-head-requires g c = (c.requires.of, search rules, glances g.T.Stands.stands _ _ _ _ _ c.args.seat.now.live)
