use Rattle.std.proofs.Common.{◌+◌}
use Rattle.gi_prop.proofs.follow.visit_other.Given as goal

abbrev pub ghost-visit : goal.ghost-visit
ghost-visit a = a.trail.now.head + 1
