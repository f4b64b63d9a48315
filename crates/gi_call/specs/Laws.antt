-- What follows of a client's end.
use Rattle.std.specs.Prelude.{◌≡◌, ◌≢◌, ◌^◌, ◌<◌, length}
use Rattle.gi_outside.specs.Link.{Rose, ins}
use Rattle.gi_outside.specs.World.{World}
use Rattle.gi_call.specs.declared.end.CallEnd.{CallEnd}
use Rattle.gi_call.specs.declared.end.CallEnd.TheVariants as by
use Rattle.gi_call.specs.Called.{Called, IsOver, Talk, talk}

-- an end by what the user or the server said
abbrev pub IsSaid : CallEnd → Type 0
IsSaid by.Done = Unit {0}
IsSaid (by.BadReply number) = Unit {0}
IsSaid (by.FalseModel number) = Unit {0}
IsSaid by.Early = Unit {0}
IsSaid other = ⊥

-- no fault, no want of memory, not too many bytes
pub record Undisturbed (server server' user user' : World) (end : CallEnd)
    (c : Called server server' user user' end) : Type 0 where
  pub server_reads : ¬ Rose server.failed_reads server'.failed_reads
  pub server_writes : ¬ Rose server.failed_writes server'.failed_writes
  pub user_reads : ¬ Rose user.failed_reads user'.failed_reads
  pub user_writes : ¬ Rose user.failed_writes user'.failed_writes
  pub memory : end ≢ by.NoMemory
  pub said : length (ins c.spoken) < 2 ^ 62
  pub typed : length (ins c.typed) < 2 ^ 62

abbrev pub UndisturbedIsSaid : Type 0
UndisturbedIsSaid = (server server' user user' : World) (end : CallEnd)
    (c : Called server server' user user' end) → Undisturbed server server' user user' end c
    → IsSaid end

abbrev pub talk_in : {server server' user user' : World} {end : CallEnd}
    → Called server server' user user' end → Talk
talk_in {server' = server'} {user' = user'} c =
    talk c.given c.rest c.spoken c.typed server'.ended user'.ended

-- where a bye was answered bye, or the user has ended and every item was answered, the end is Done,
-- but for a fault of the last write and want of memory
abbrev pub DoneIsExact : Type 0
DoneIsExact = (server server' user user' : World) (end : CallEnd)
    (c : Called server server' user user' end) → IsOver (talk_in c) → end ≢ by.WriteFault
    → end ≢ by.NoMemory → end ≡ by.Done
