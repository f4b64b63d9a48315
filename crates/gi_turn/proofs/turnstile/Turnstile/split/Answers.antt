use Rattle.std.proofs.Common.{cond, Some, None, ap, ◌∙◌, rules}
use Rattle.gi_turn.proofs.Steps.{splits}
use Rattle.gi_turn.proofs.turnstile.Turnstile.split.Goals as goal

pub split_seat-chair-requires : goal.split_seat-chair-requires
split_seat-chair-requires g c =
    let seat = c.args.seat.now in
    (c.requires.of, search rules, splits g.T.Stands.stands _ _ _ _ seat.live (seat.ticket_is ∙ ap (λ b. cond b (Some seat.ticket) None) c.requires.idle) c.requires.idle)
