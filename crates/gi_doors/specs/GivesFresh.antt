-- What a listener of the system gives.
use Rattle.gi_outside.specs.World.{World}
use Rattle.gi_doors.specs.declared.door.Came.{Came}
use Rattle.gi_doors.specs.declared.door.Came.TheVariants as came
use Rattle.gi_doors.specs.Fresh.{IsFresh}

-- a link through which nothing has gone, or a fault
abbrev pub GivesFresh : {L : Type 0} → (L → World) → Came L → Type 0
GivesFresh world (came.Link link) = IsFresh (world link)
GivesFresh world came.Closed = ⊥
GivesFresh world came.Failed = Unit {0}
