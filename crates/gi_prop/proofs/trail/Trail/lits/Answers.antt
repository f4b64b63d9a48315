use Rattle.std.proofs.Common.{subst}
use Rattle.gi_prop.specs.TrailView.{IsTrail}
use Rattle.gi_prop.proofs.Laying.{laid_trail}
use Rattle.gi_prop.proofs.trail.Trail.lits.Goals as goal

pub returns-clause-trail : goal.returns-clause-trail
returns-clause-trail c = subst IsTrail c.self.view_is (laid_trail _ _ _ _ _ _ _ _ _ c.self.invariant)
