-- How the server ends.
use Rattle.std.specs.Prelude.{◌≡◌, ◌≢◌, ◌⊎◌, ℕ, ◌+◌, ◌<◌, ◌≤◌, Bool, true, List, [], ◌∷◌, ◌++◌, length, map}
use Rattle.gi_outside.specs.Link.{Rose}
use Rattle.gi_outside.specs.World.{World, IsCutFrom, Wrote}
use Rattle.gi_doors.specs.DoorState.{DoorState}
use Rattle.gi_net.specs.declared.how.How.{How}
use Rattle.gi_serve.specs.Accounts.{Accounts}
use Rattle.gi_serve.specs.ClosedLines.{closed_line, closed_lines}
use Rattle.gi_serve.specs.Connection.{Connection}
use Rattle.gi_serve.specs.ShelfState.{ShelfState}
use Rattle.gi_serve.specs.declared.serve_end.ServeEnd.{ServeEnd}
use Rattle.gi_serve.specs.declared.serve_end.ServeEnd.TheVariants as end

-- whether the door is closed at the end: the server ends by Closed exactly where it answered so
abbrev pub closed_by : ServeEnd → Bool → Bool
closed_by end.Closed before = true
closed_by other before = before

-- the lines were written whole
abbrev pub WroteLines : List How → World → World → Type 0
WroteLines ends old new = Wrote old new (closed_lines 1 ends)

-- the lines were written but for bytes of the last one alone, since a write failed
pub record WroteButLast (ends : List How) (old new : World) : Type 0 where
  pub before : List How
  pub last : How
  pub split : ends ≡ before ++ last ∷ []
  pub cut : List ℕ
  pub is_cut : IsCutFrom cut (closed_line (length before + 1) last)
  pub wrote : Wrote old new (closed_lines 1 before ++ cut)
  pub cause : Rose old.failed_writes new.failed_writes

-- How it ends: how many connections there were to be, how those that were served ended, the links
-- that were not, the door's faults before and after, and what was written.
abbrev pub Ends : {L : Type 0} → ServeEnd → ℕ → List How → List L → ℕ → ℕ → World → World → Type 0
Ends end.Done most ends unserved before now old new = (length ends ≡ most) × (unserved ≡ [])
    × WroteLines ends old new
Ends end.Closed most ends unserved before now old new = (length ends < most) × (unserved ≡ [])
    × WroteLines ends old new
Ends end.DoorFault most ends unserved before now old new = (length ends < most) × (unserved ≡ [])
    × WroteLines ends old new × Rose before now
Ends end.WriteFault most ends unserved before now old new = (length ends ≤ most) × (unserved ≡ [])
    × WroteButLast ends old new
Ends end.NoMemory most ends unserved before now old new = (length ends < most)
    × (length unserved ≡ 1) × WroteLines ends old new

-- The server has accounted for every connection.
pub record HasServed {L : Type 0} (world : L → World) (quiet : Bool) (most : ℕ) (by : ServeEnd)
    (door door_after : DoorState L) (user user_after : World)
    (shelf shelf_after : ShelfState) : Type 0 where
  -- the connections that were served, in order, and the link that was not
  pub served : List (Connection L)
  pub unserved : List L
  pub accounts : Accounts world quiet served unserved door door_after shelf shelf_after
  pub closed : door_after.ended ≡ closed_by by door.ended
  pub ends : Ends by most (map (λ c. c.how) served) unserved door.faults door_after.faults user
      user_after
  -- where no count of faults rose and memory was not wanting, it ends as it is meant to
  pub fine : ¬ Rose door.faults door_after.faults
      → ¬ Rose user.failed_writes user_after.failed_writes
      → by ≢ end.NoMemory → (by ≡ end.Done) ⊎ (by ≡ end.Closed)
