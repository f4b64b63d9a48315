use Rattle.std.proofs.Common.{refl}
use Rattle.gi_reference.specs.Search.{forces}
use Rattle.gi_reference.proofs.listing.forces.Goals as goal

pub returns-then-not-has_lit : goal.returns-then-not-has_lit
unfolding forces
returns-then-not-has_lit c = rw (← c.if-not-has_lit.ensures) refl

pub returns : goal.returns
unfolding forces
returns c = rw (← c.if-not-has_lit.ensures) c.others_false.ensures
