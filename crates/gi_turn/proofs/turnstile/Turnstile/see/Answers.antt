use Rattle.std.proofs.Common.{rules}
use Rattle.gi_turn.proofs.Steps.{sees}
use Rattle.gi_turn.proofs.turnstile.Turnstile.see.Goals as goal

pub load-requires : goal.load-requires
load-requires g c = (c.requires.of, search rules, sees _ _ _ _ _ _)
