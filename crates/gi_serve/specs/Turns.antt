-- One turn of the server: the next connection, or the end.
use Rattle.std.specs.Prelude.{◌≡◌, ℕ, ◌+◌, ◌≤◌, Bool, List, [], ◌∷◌, length, map, Option, Some, None, option_map}
use Rattle.gi_outside.specs.Link.{Rose}
use Rattle.gi_outside.specs.World.{World, Wrote, WroteCut}
use Rattle.gi_doors.specs.DoorState.{DoorState}
use Rattle.gi_net.specs.declared.how.How.{How}
use Rattle.gi_serve.specs.Accounts.{Accounts}
use Rattle.gi_serve.specs.ClosedLines.{closed_line}
use Rattle.gi_serve.specs.Connection.{Connection}
use Rattle.gi_serve.specs.HasServed.{closed_by}
use Rattle.gi_serve.specs.ShelfState.{ShelfState}
use Rattle.gi_serve.specs.declared.serve_end.ServeEnd.{ServeEnd}
use Rattle.gi_serve.specs.declared.serve_end.ServeEnd.TheVariants as end

-- one link more is out than before
pub record IsOut {L : Type 0} (before now : DoorState L) : Type 0 where
  pub faults : before.faults ≤ now.faults
  pub out : now ≡ record before {
    faults = now.faults;
    out = option_map (λ links. links + 1) before.out;
  }

-- one connection was served, and its session ended so
pub record ServesOne {L : Type 0} (world : L → World) (quiet : Bool) (by : How)
    (door door_after : DoorState L) (shelf shelf_after : ShelfState) : Type 0 where
  pub connection : Connection L
  pub how_is : connection.how ≡ by
  pub accounts : Accounts world quiet (connection ∷ []) [] door door_after shelf shelf_after
  pub closed : door_after.ended ≡ door.ended

-- whether the door is closed once the server goes on or ends
abbrev pub closed_at : Option ServeEnd → Bool → Bool
closed_at None before = before
closed_at (Some by) before = closed_by by before

-- The server goes on once the line of one more connection was printed, or it ends: the number of
-- that line, how the served connection ended, the link that was not served, the door's faults
-- before and after, and what was written.
abbrev pub Tells : {L : Type 0} → ℕ → Option ServeEnd → List How → List L → ℕ → ℕ → World → World
    → Type 0
Tells number None ends unserved before now old new = (unserved ≡ [])
    × ((by : How) × (ends ≡ by ∷ []) × Wrote old new (closed_line number by))
Tells number (Some end.Done) ends unserved before now old new = ⊥
Tells number (Some end.Closed) ends unserved before now old new = (ends ≡ []) × (unserved ≡ [])
    × (new ≡ old)
Tells number (Some end.DoorFault) ends unserved before now old new = (ends ≡ [])
    × (unserved ≡ []) × (new ≡ old) × Rose before now
Tells number (Some end.WriteFault) ends unserved before now old new = (unserved ≡ [])
    × ((by : How) × (ends ≡ by ∷ []) × WroteCut old new (closed_line number by))
Tells number (Some end.NoMemory) ends unserved before now old new = (ends ≡ [])
    × (length unserved ≡ 1) × (new ≡ old)

-- a turn was done
pub record HasTurned {L : Type 0} (world : L → World) (quiet : Bool) (number : ℕ)
    (by : Option ServeEnd) (door door_after : DoorState L) (user user_after : World)
    (shelf shelf_after : ShelfState) : Type 0 where
  pub served : List (Connection L)
  pub unserved : List L
  pub accounts : Accounts world quiet served unserved door door_after shelf shelf_after
  pub closed : door_after.ended ≡ closed_at by door.ended
  pub tells : Tells number by (map (λ c. c.how) served) unserved door.faults door_after.faults user
      user_after
