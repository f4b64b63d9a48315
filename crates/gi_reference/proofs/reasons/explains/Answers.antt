use Rattle.std.proofs.Common.{refl}
use Rattle.gi_reference.specs.Search.{explains}
use Rattle.gi_reference.proofs.reasons.explains.Goals as goal

pub returns-then-not-forces : goal.returns-then-not-forces
unfolding explains
returns-then-not-forces c = rw (← c.if-not-forces.ensures) refl

pub returns : goal.returns
unfolding explains
returns c = rw (← c.if-not-forces.ensures) c.are_opposites.ensures
