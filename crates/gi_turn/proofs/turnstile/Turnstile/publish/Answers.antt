use Rattle.std.proofs.Common.{subst, sym, ◌∙◌, rules, arith}
use Rattle.std.specs.Prelude.{Contains}
use Rattle.gi_turn.proofs.Steps.{entry_parts, publishes}
use Rattle.gi_turn.proofs.turnstile.Turnstile.publish.Goals as goal

pub store-requires : goal.store-requires
store-requires g c =
    let e = entry_parts g.N.Adds.entry _ _ _ _ c.requires.adds in
    let phase = e.1 in
    let t = c.requires.stands in (
      c.requires.table,
      search rules,
      publishes g.T.Stands.stands _ _ _ _ c.args.chair.now.me t.0 g.N.Adds.entry _ c.args.ticket c.requires.turn.0 c.requires.turn.1 c.requires.turn.2 c.requires.turn.4 t.1 (omega arith) e.0
          (λ ne. subst (Contains c.args.chair.now.me.0.fresh) (sym e.2) (c.requires.mark (λ z. ne (e.2 ∙ z)))) t.2 (omega arith),
    )
