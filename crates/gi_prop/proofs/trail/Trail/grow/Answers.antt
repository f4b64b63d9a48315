use Rattle.std.proofs.Common.{◌++◌, replicate, None, length, length-append, refl, ap, ◌∙◌, arith}
use Rattle.gi_prop.proofs.Keys.{goes_same}
use Rattle.gi_prop.proofs.Laying.{laid_grow}
use Rattle.gi_prop.proofs.trail.Trail.grow.Goals as goal

pub invariant_of-self-2 : goal.invariant_of-self-2
invariant_of-self-2 c =
    laid_grow _ _ _ _ _ _ _ _ _ c.self.invariant c.saturating_sub-more.result _ _ _ _ _ _
    (c.add_positions.ensures ∙ ap (λ xs. xs ++ replicate c.saturating_sub-more.result None) c.in_ok-reserve-3.ensures.items)
    (c.add_values.ensures ∙ ap (λ xs. xs ++ replicate c.saturating_sub-more.result None) c.in_ok-reserve-4.ensures.items)
    c.in_ok-reserve.ensures.items
    c.in_ok-reserve-2.ensures.items
    (omega (arith, c.self.invariant.few, c.ranges.n.fits, c.saturating_sub-more.ensures, c.len.ensures, c.self.inside.positions.ok.0))
    (let a = c.in_ok-reserve.ensures.ok in omega (arith, a, c.in_ok-reserve.ensures.capacity, c.saturating_sub-more.ensures, c.saturating_sub-room.ensures, c.len.ensures, c.len-2.ensures, c.self.invariant.lits_fit, c.self.inside.positions.ok.0, c.self.inside.lits.ok.0))
    (let a = c.in_ok-reserve-2.ensures.ok in omega (arith, a, c.in_ok-reserve-2.ensures.capacity, c.saturating_sub-more.ensures, c.saturating_sub-room.ensures, c.len.ensures, c.len-2.ensures, c.self.invariant.reasons_fit, c.self.invariant.aligned, c.self.inside.positions.ok.0, c.self.inside.lits.ok.0, c.self.inside.reasons.ok.0))

pub returns-clause-goes : goal.returns-clause-goes
returns-clause-goes c = goes_same _ _ _ c.self.view_is (omega (arith, ap length (c.add_positions.ensures ∙ ap (λ xs. xs ++ replicate c.saturating_sub-more.result None) c.in_ok-reserve-3.ensures.items), length-append c.self.inside.positions.items (replicate c.saturating_sub-more.result None))) c.in_ok-reserve.ensures.items refl refl refl c.self.invariant.begun.high
