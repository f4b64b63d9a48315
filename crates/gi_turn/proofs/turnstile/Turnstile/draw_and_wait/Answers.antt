use Rattle.std.proofs.Common.{ℕ, List, ◌∷◌, Some, ap, sym, ◌∙◌, rules}
use Rattle.std.specs.Prelude.{Option}
use Rattle.atomic_table.specs.Table.{rest}
use Rattle.gi_turn.proofs.Steps.{draws}
use Rattle.gi_turn.proofs.Waiting.{has_entered, has_none_left}
use Rattle.gi_turn.proofs.turnstile.Turnstile.draw_and_wait.Goals as goal

pub fetch_add-ticket-requires : goal.fetch_add-ticket-requires
fetch_add-ticket-requires g c = (c.requires.table, search rules, draws g.T.Stands.stands _ _ _ _ c.args.chair.now.me c.requires.idle.1 c.requires.idle.0.2 c.requires.left)

pub exchange-requires : goal.exchange-requires
exchange-requires g c = let t = c.wait_turn.ensures.turn in (search rules, (Some t.2, t.7 ∙ ap (λ (l : List (ℕ × Option g.row.T.Denot)). (0, Some t.2) ∷ l) (sym (ap rest t.7))))

pub returns-clause-entered : goal.returns-clause-entered
returns-clause-entered g c = has_entered g.T.Stands.stands g.T.Stands.may_ask c.args.chair.now.me.0 c.fetch_add-ticket.result c.fetch_add-ticket.new.seat.me.0 c.wait_turn.new.chair.me c.exchange.new.seat.me c.in-Some.value c.fetch_add-ticket.ensures.2.0 c.wait_turn.ensures.turn c.in-Some.ensures.2 c.exchange.ensures.3

pub returns-clause-empty : goal.returns-clause-empty
returns-clause-empty g c = has_none_left g.T.Stands.stands g.T.Stands.may_ask c.fetch_add-ticket.new.seat.me.0 c.fetch_add-ticket.result c.wait_turn.new.chair.me c.exchange.new.seat.me c.wait_turn.ensures.turn c.exchange.ensures.3
