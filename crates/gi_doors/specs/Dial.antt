-- What a call does to a dial.
use Rattle.std.specs.Prelude.{◌≡◌, ◌+◌, [], ◌∷◌, ◌++◌, option_map}
use Rattle.gi_outside.specs.Link.{Rose}
use Rattle.gi_outside.specs.World.{World}
use Rattle.gi_doors.specs.declared.dial.Dialed.{Dialed}
use Rattle.gi_doors.specs.declared.dial.Dialed.TheVariants as dialed
use Rattle.gi_doors.specs.DialState.{DialState}
use Rattle.gi_doors.specs.Fresh.{IsFresh}

-- one more link was given, or the count of faults rose
abbrev pub Dials : {L : Type 0} → (L → World) → Dialed L → DialState L → DialState L → Type 0
Dials world (dialed.Link link) old new = IsFresh (world link)
    × (new ≡ record old { faults = new.faults; given = option_map (λ links. links + 1) old.given })
Dials world dialed.Failed old new =
    (new ≡ record old { faults = new.faults }) × Rose old.faults new.faults

-- this link was hung up
abbrev pub HangsUpDialed : {L : Type 0} → L → DialState L → DialState L → Type 0
HangsUpDialed link old new = new ≡ record old {
  faults = new.faults;
  hung = option_map (λ links. links ++ link ∷ []) old.hung;
}
