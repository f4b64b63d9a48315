use Rattle.std.proofs.Common.{◌-◌}
use Rattle.gi_prop.proofs.Following.{IsFollowing}
use Rattle.gi_prop.proofs.follow.follow.Given as goal

abbrev pub invariant-trail : goal.invariant-trail
invariant-trail l = IsFollowing l.slots l.fn.first l.fn.second l.first l.second l.store l.fn.trail l.trail

abbrev pub decreases-trail : goal.decreases-trail
decreases-trail l = l.trail.vars - l.trail.head

abbrev pub ghost-visit : goal.ghost-visit
ghost-visit a = a.trail.now.head
