-- What connections leave at the door and on the shelf.
use Rattle.std.specs.Prelude.{◌≡◌, ◌≤◌, Bool, List, ◌++◌, map, All, option_map}
use Rattle.gi_outside.specs.Link.{Rose}
use Rattle.gi_outside.specs.Told.{Adds}
use Rattle.gi_outside.specs.World.{World}
use Rattle.gi_doors.specs.DoorState.{DoorState}
use Rattle.gi_doors.specs.Fresh.{IsFresh}
use Rattle.gi_serve.specs.Connection.{Connection, WasServed}
use Rattle.gi_serve.specs.ShelfState.{ShelfState}

-- These connections were served, one after the other, and then these links were not: each of them
-- was hung up, in this order, and no other, and no other is out. Unless one was lost, the passes
-- were put on the shelf in this order.
pub record Accounts {L : Type 0} (world : L → World) (quiet : Bool) (served : List (Connection L))
    (unserved : List L) (old new : DoorState L) (shelf after : ShelfState) : Type 0 where
  pub each : All (WasServed world quiet) served
  pub fresh : All (λ link. IsFresh (world link)) unserved
  pub faults : old.faults ≤ new.faults
  -- so the number of links that are out is as before
  pub door : new ≡ record old {
    faults = new.faults;
    ended = new.ended;
    hung = option_map (λ links. links ++ (map (λ c. c.link) served ++ unserved)) old.hung;
  }
  pub lost : shelf.lost ≤ after.lost
  pub shelved : ¬ Rose shelf.lost after.lost
      → Adds shelf.shelved after.shelved (map (λ c. c.pass) served)
