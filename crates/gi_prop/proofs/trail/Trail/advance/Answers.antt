use Rattle.std.proofs.Common.{◌<◌, length}
use Rattle.gi_prop.proofs.Levels.{AreLevels-next}
use Rattle.gi_prop.proofs.Laying.{laid_trail}
use Rattle.gi_prop.proofs.trail.Trail.advance.Goals as goal

pub returns-clause-trail : goal.returns-clause-trail
returns-clause-trail c =
    let lt : c.self.inside.head < length c.self.inside.lits.items = rw (← c.self.view_is) at c.requires in
    let t = laid_trail _ _ _ _ _ _ _ _ _ c.self.invariant in
    record { few = t.few; within = t.within; room = t.room; apart = t.apart; consistent = t.consistent; reasons = t.reasons; levels = AreLevels-next _ _ _ _ c.self.invariant.begun lt }
