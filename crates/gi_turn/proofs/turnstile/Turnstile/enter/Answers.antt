use Rattle.gi_turn.proofs.Entering.{entered_begins, entered_turn, entered_stands, entered_phases, entered_marks}
use Rattle.gi_turn.proofs.turnstile.Turnstile.enter.Goals as goal

pub returns-clause-begins : goal.returns-clause-begins
returns-clause-begins g c = entered_begins g.T.Stands.stands g.T.Stands.may_ask _ _ _ c.draw_and_wait-ticket.ensures.entered

pub returns-clause-turn : goal.returns-clause-turn
returns-clause-turn g c = entered_turn g.T.Stands.stands g.T.Stands.may_ask _ _ _ c.draw_and_wait-ticket.ensures.entered

pub returns-clause-stands : goal.returns-clause-stands
returns-clause-stands g c = entered_stands g.T.Stands.stands g.T.Stands.may_ask _ _ _ c.draw_and_wait-ticket.ensures.entered

pub returns-clause-phases : goal.returns-clause-phases
returns-clause-phases g c = entered_phases g.T.Stands.stands g.T.Stands.may_ask _ _ _ c.draw_and_wait-ticket.ensures.entered

pub returns-clause-marks : goal.returns-clause-marks
returns-clause-marks g c = entered_marks g.T.Stands.stands g.T.Stands.may_ask _ _ _ c.draw_and_wait-ticket.ensures.entered
