use Rattle.std.proofs.Common.{◌≡◌, refl, ◌<◌, ◌++◌, ◌∷◌, [], length, ap, ◌∙◌, arith}
use Rattle.gi_prop.proofs.Keys.{goes_level}
use Rattle.gi_prop.proofs.Laying.{laid_mark}
use Rattle.gi_prop.proofs.trail.Trail.push_level.Goals as goal

pub invariant_of-self-2 : goal.invariant_of-self-2
invariant_of-self-2 c =
    let below : length c.self.inside.level_starts.items < 4294967295 = rw (← c.self.view_is) at c.requires in
    laid_mark _ _ _ _ _ _ _ _ _ c.self.invariant c.len.result _ _
    (omega (arith, c.len.ensures, c.self.inside.lits.ok.0))
    below
    (c.push_reserved.ensures.items ∙ ap (λ xs. xs ++ c.len.result ∷ []) c.in_ok-reserve.ensures.items)
    (c.push_reserved-2.ensures.items ∙ ap (λ xs. xs ++ c.self.inside.head ∷ []) c.in_ok-reserve-2.ensures.items)

pub returns-clause-goes : goal.returns-clause-goes
returns-clause-goes c = goes_level _ _ _ c.self.view_is c.self.invariant.begun refl refl
    (c.push_reserved.ensures.items ∙ ap (λ xs. xs ++ c.len.result ∷ []) c.in_ok-reserve.ensures.items ∙ ap (λ n. c.self.inside.level_starts.items ++ n ∷ []) (let e : c.len.result ≡ length c.self.inside.lits.items = omega (arith, c.len.ensures, c.self.inside.lits.ok.0) in e))
    (c.push_reserved-2.ensures.items ∙ ap (λ xs. xs ++ c.self.inside.head ∷ []) c.in_ok-reserve-2.ensures.items) refl
