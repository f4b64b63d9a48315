use Rattle.gi_turn.specs.declared.view.View.{View}
use Rattle.gi_turn.specs.Entries.{entry_of}
use Rattle.gi_turn.proofs.Waiting.{moved_back}
use Rattle.gi_turn.proofs.turnstile.Turnstile.put_back.Goals as goal

pub publish-requires-clause-stands : goal.publish-requires-clause-stands
publish-requires-clause-stands g c =
    let x = moved_back g.T.Stands.stands g.T.Stands.may_ask c.args.chair.now.me c.exchange-gone.new.seat.me c.args.value (λ (v : View). entry_of v.number c.args.phase (g.E.Entered.mark c.args.entry.now) (g.E.Entered.told c.args.entry.now)) c.exchange-gone.ensures.3 c.requires.turn.1 c.requires.stands in
    (c.args.value, x.0, x.1)
