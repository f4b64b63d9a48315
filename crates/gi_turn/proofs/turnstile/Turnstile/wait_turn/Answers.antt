use Rattle.std.proofs.Common.{◌∙◌, rules}
use mathlib.Core.Option.{none}
use Rattle.atomic_table.specs.Table.{step}
use Rattle.gi_turn.proofs.Steps.{looks}
use Rattle.gi_turn.proofs.Waiting.{still_waits, takes_turn}
use Rattle.gi_turn.proofs.turnstile.Turnstile.wait_turn.Goals as goal

pub load-head-requires : goal.load-head-requires
load-head-requires g c =
    let i = c.loop.invariant in
    let w = still_waits g.T.Stands.stands g.T.Stands.may_ask c.args.ticket c.args.chair.now.me c.loop.chair.me i.4 c.requires.ticket c.requires.idle in
    (i.2 ∙ c.requires.table, search rules, looks g.T.Stands.stands _ _ _ _ c.loop.chair.me c.args.ticket w.0 w.1.0 w.1.2 w.1.1)

pub returns-then-length_in-ticket-clause-turn : goal.returns-then-length_in-ticket-clause-turn
returns-then-length_in-ticket-clause-turn g c = takes_turn g.T.Stands.stands g.T.Stands.may_ask (step 0 0 0 0 none) c.args.chair.now.me c.loop.chair.me c.load-head.result c.args.ticket _ c.loop.invariant.4 c.load-head.ensures.2 c.requires.ticket (search rules)
