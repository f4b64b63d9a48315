-- What a call does to a door.
use Rattle.std.specs.Prelude.{◌≡◌, ◌+◌, ◌-◌, true, [], ◌∷◌, ◌++◌, option_map}
use Rattle.gi_outside.specs.Link.{Rose}
use Rattle.gi_outside.specs.World.{World}
use Rattle.gi_doors.specs.declared.door.Came.{Came}
use Rattle.gi_doors.specs.declared.door.Listened.{Listened}
use Rattle.gi_doors.specs.declared.door.Came.TheVariants as came
use Rattle.gi_doors.specs.declared.door.Listened.TheVariants as listened
use Rattle.gi_doors.specs.DoorState.{DoorState}
use Rattle.gi_doors.specs.Fresh.{IsFresh}

-- at most its count of faults is another
abbrev pub SameDoor : {L : Type 0} → DoorState L → DoorState L → Type 0
SameDoor old new = new ≡ record old { faults = new.faults }

-- it fails only where its count of faults rises
abbrev pub Listens : {L : Type 0} → Listened → DoorState L → DoorState L → Type 0
Listens listened.Ready old new = SameDoor old new
Listens listened.Failed old new = SameDoor old new × Rose old.faults new.faults

-- one more link is out, the door is closed, or its count of faults rose
abbrev pub Accepts : {L : Type 0} → (L → World) → Came L → DoorState L → DoorState L → Type 0
Accepts world (came.Link link) old new = IsFresh (world link)
    × (new ≡ record old { faults = new.faults; out = option_map (λ links. links + 1) old.out })
Accepts world came.Closed old new = new ≡ record old { faults = new.faults; ended = true }
Accepts world came.Failed old new = SameDoor old new × Rose old.faults new.faults

-- one link less is out, and this one was hung up
abbrev pub HangsUp : {L : Type 0} → L → DoorState L → DoorState L → Type 0
HangsUp link old new = new ≡ record old {
  faults = new.faults;
  out = option_map (λ links. links - 1) old.out;
  hung = option_map (λ links. links ++ link ∷ []) old.hung;
}
