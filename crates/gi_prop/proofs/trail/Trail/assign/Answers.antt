use Rattle.std.proofs.Common.{◌-◌, length-set, [], ◌∷◌, ◌++◌, refl, not, ap, ◌∙◌, arith}
use Rattle.gi_prop.proofs.Values.{even_is_not_odd}
use Rattle.gi_prop.proofs.Keys.{goes_lits}
use Rattle.gi_prop.proofs.Laying.{laid_push, laid_room, laid_trail}
use Rattle.gi_prop.proofs.trail.Trail.assign.Goals as goal

pub to-requires : goal.to-requires
to-requires c =
    let r = laid_room _ _ _ _ _ _ _ _ _ c.self.invariant _ c.self.view_is c.args.l (omega (arith, c.index.ensures.low)) c.requires.within c.requires.free in
    omega (arith, r, c.self.invariant.few, c.len.ensures, c.self.inside.lits.ok.0)

pub overflow_cast-len : goal.overflow_cast-len
overflow_cast-len c =
    let r = laid_room _ _ _ _ _ _ _ _ _ c.self.invariant _ c.self.view_is c.args.l (omega (arith, c.index.ensures.low)) c.requires.within c.requires.free in
    omega (arith, r, c.self.invariant.few, c.len.ensures, c.self.inside.lits.ok.0)

pub push_reserved-requires : goal.push_reserved-requires
push_reserved-requires c =
    let r = laid_room _ _ _ _ _ _ _ _ _ c.self.invariant _ c.self.view_is c.args.l (omega (arith, c.index.ensures.low)) c.requires.within c.requires.free in
    omega (arith, r, c.self.invariant.lits_fit, c.self.inside.lits.ok.0)

pub push_reserved-requires-2 : goal.push_reserved-requires-2
push_reserved-requires-2 c =
    let r = laid_room _ _ _ _ _ _ _ _ _ c.self.invariant _ c.self.view_is c.args.l (omega (arith, c.index.ensures.low)) c.requires.within c.requires.free in
    omega (arith, r, c.self.invariant.aligned, c.self.invariant.reasons_fit, c.self.inside.reasons.ok.0)

pub invariant_of-self : goal.invariant_of-self
invariant_of-self c =
    laid_push _ _ _ _ _ _ _ _ _ c.self.invariant c.args.l _ _ _ _ _ c.args.why _ _ _ _
    c.to.ensures
    c.of.ensures
    (ap (λ x. x - 1) (c.index.ensures.value ∙ c.var.ensures))
    (omega (arith, c.len.ensures, c.self.inside.lits.ok.0))
    (ap not c.is_negative.ensures ∙ even_is_not_odd c.args.l)
    (omega (arith, c.index.ensures.low))
    (rw (← c.self.view_is) at c.requires.within)
    (rw (← c.self.view_is) at c.requires.free)
    c.push_reserved.ensures.items
    (c.push_reserved-2.ensures.items ∙ ap (λ y. c.self.inside.reasons.items ++ y ∷ []) c.of-2.ensures)
    (omega (arith, c.push_reserved.ensures.capacity))
    (omega (arith, c.push_reserved-2.ensures.capacity))

pub returns-clause-room : goal.returns-clause-room
returns-clause-room c =
    let r = laid_room _ _ _ _ _ _ _ _ _ c.self.invariant _ c.self.view_is c.args.l (omega (arith, c.index.ensures.low)) c.requires.within c.requires.free in
    rw (← c.self.view_is) r

pub returns-clause-goes : goal.returns-clause-goes
returns-clause-goes c = goes_lits _ _ _ (c.args.l ∷ []) c.self.view_is (simp length-set (omega arith)) c.push_reserved.ensures.items refl refl refl c.self.invariant.begun.high

pub returns-clause-trail : goal.returns-clause-trail
returns-clause-trail c = laid_trail _ _ _ _ _ _ _ _ _ (invariant_of-self c)
