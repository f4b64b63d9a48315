use Rattle.std.proofs.Common.{refl, subst}
use Rattle.std.proofs.lemmas.Bool.{false≢true}
use Rattle.gi_prop.specs.TrailView.{IsTrail}
use Rattle.gi_prop.proofs.Laying.{laid_trail}
use Rattle.gi_prop.proofs.trail.Trail.is_false.Goals as goal

pub returns-in-Some-true : goal.returns-in-Some-true
returns-in-Some-true c =
    let t = subst IsTrail c.self.view_is (laid_trail _ _ _ _ _ _ _ _ _ c.self.invariant) in
    (λ e. absurd (false≢true e), λ h. absurd (t.consistent.each c.args.l (rw c.in-Some-true.field-0-test at c.in-Some-true.ensures) h))

pub returns-in-Some-false : goal.returns-in-Some-false
returns-in-Some-false c = (λ _. rw c.in-Some-false.field-0-test at c.in-Some-false.ensures, λ _. refl)

pub returns-in-None : goal.returns-in-None
returns-in-None c = (λ e. absurd (false≢true e), λ h. absurd (c.in-None.ensures.1 h))
