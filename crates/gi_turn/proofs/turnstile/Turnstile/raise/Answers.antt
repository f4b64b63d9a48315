use Rattle.std.proofs.Common.{rules}
use Rattle.gi_turn.proofs.Steps.{asks}
use Rattle.gi_turn.proofs.turnstile.Turnstile.raise.Goals as goal

pub fetch_max-requires : goal.fetch_max-requires
fetch_max-requires g c = (c.requires.of, search rules, asks g.T.Stands.stands _ _ _ _ c.args.seat.now.chair.me _ c.requires.may c.args.seat.now.live)
