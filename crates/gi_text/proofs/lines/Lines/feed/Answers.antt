use Rattle.std.proofs.Common.{◌++◌, ◌==◌, length, sym, ap, ◌∙◌}
use Rattle.gi_text.proofs.Held.{held_cut, held_whole, view_cut, view_whole}
use Rattle.gi_text.proofs.lines.Lines.feed.Goals as goal

pub invariant_of-self-then-not-self : goal.invariant_of-self-then-not-self
invariant_of-self-then-not-self c = held_whole c.self.inside.held _ c.args.piece.now _ _ _ c.self.invariant c.if-not-self.true c.in_ok-extend.ensures.ok

pub returns-then-not-self-clause-ok : goal.returns-then-not-self-clause-ok
returns-then-not-self-clause-ok c = view_whole c.self.inside.held _ c.args.piece.now _ _ _ _ c.self.view_is (sym c.self.invariant.drops ∙ c.if-not-self.true) c.in_ok-extend.ensures.ok

pub invariant_of-self-2 : goal.invariant_of-self-2
invariant_of-self-2 c =
    held_cut c.self.inside.held _ c.args.piece.now _ _ c.self.inside.dropping _ c.self.invariant c.if-not-self.false
    (c.in_ok-extend-2.ensures.ok ∙ ap (λ xs. c.self.inside.held ++ xs) c.skip_to_lf-kept.ensures)
    (c.is_empty-self-inside.ensures ∙ ap (λ xs. length xs == 0) c.skip_to_lf-kept.ensures)

pub returns-clause-ok : goal.returns-clause-ok
returns-clause-ok c =
    view_cut c.self.inside.held _ c.args.piece.now _ _ _ _ c.self.view_is (sym c.self.invariant.drops ∙ c.if-not-self.false)
    (c.in_ok-extend-2.ensures.ok ∙ ap (λ xs. c.self.inside.held ++ xs) c.skip_to_lf-kept.ensures)
