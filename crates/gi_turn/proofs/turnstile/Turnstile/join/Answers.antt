use Rattle.std.proofs.Common.{cond, Option, Some, None, [], ◌∷◌, ap, ◌∙◌, rules}
use Rattle.atomic_table.specs.Table.{Me}
use Rattle.gi_turn.specs.declared.view.View.{View}
use Rattle.gi_turn.proofs.Numbers.{joined_one}
use Rattle.gi_turn.proofs.Steps.{joins, settles}
use Rattle.gi_turn.proofs.turnstile.Turnstile.join.Goals as goal

pub join_seat-requires : goal.join_seat-requires
join_seat-requires g c =
    let into = c.args.into.now in
    let other = c.args.other in (
      c.requires.of.0,
      c.requires.of.1,
      other.carried ∙ ap (λ b. cond b ((0, None) ∷ []) []) c.requires.idle.1,
      search rules,
      joins g.T.Stands.stands _ _ _ _ _ _ into.live other.live
          (into.ticket_is ∙ ap (λ b. cond b (Some into.ticket) None) c.requires.idle.0) c.requires.idle.0
          (other.ticket_is ∙ ap (λ b. cond b (Some other.ticket) None) c.requires.idle.1) c.requires.idle.1,
    )

pub load-requires : goal.load-requires
load-requires g c =
    let live = ap (λ (m : Me (Option g.row.T.Denot) View). m.0.spent) c.join_seat.ensures.2 ∙ c.args.into.now.live in
    (search rules, search rules, settles g.T.Stands.stands _ _ _ _ _ live)

pub returns-clause-one : goal.returns-clause-one
returns-clause-one g c =
    let x = joined_one c.args.into.now.chair.me.0 c.args.other.chair.me.0 c.join_seat.new.seat.me.0 c.load.new.seat.me.0 (ap (λ (m : Me (Option g.row.T.Denot) View). m.0) c.join_seat.ensures.2) c.load.ensures.2.0 c.load.ensures.2.5 in
    (x.0.0, x.1.0)

pub returns-clause-own : goal.returns-clause-own
returns-clause-own g c =
    let x = joined_one c.args.into.now.chair.me.0 c.args.other.chair.me.0 c.join_seat.new.seat.me.0 c.load.new.seat.me.0 (ap (λ (m : Me (Option g.row.T.Denot) View). m.0) c.join_seat.ensures.2) c.load.ensures.2.0 c.load.ensures.2.5 in
    (x.0.1, x.1.1)
