use Rattle.gi_turn.specs.Entries.{entry_of}
use Rattle.gi_turn.proofs.turnstile.Turnstile.put_back.Given as goal

abbrev pub ghosts-publish : goal.ghosts-publish
ghosts-publish g a = record { entry = entry_of a.chair.now.me.0.number a.phase (g.E.Entered.mark a.entry.now) (g.E.Entered.told a.entry.now) }
