-- A connection that was served.
use Rattle.std.specs.Prelude.{◌≡◌, ◌*◌, ◌^◌, ◌<◌, ◌≤◌, ◌⊎◌, Bool, true, length, All, IfSome}
use Rattle.gi_outside.specs.Link.{ins}
use Rattle.gi_outside.specs.World.{World}
use Rattle.gi_doors.specs.Fresh.{IsFresh}
use Rattle.gi_net.specs.Session.{Session}
use Rattle.gi_net.specs.declared.how.How.{How}
use Rattle.gi_net.specs.declared.how.How.TheVariants as how
use Rattle.gi_turn.specs.Known.{Place}
use Rattle.gi_room.specs.Entries.{all_own_of}
use Rattle.gi_room.specs.Seen.{Seen, new_pass}
use Rattle.gi_host.specs.Hosts.{Hosts, IsAlone}
use Rattle.gi_host.specs.Visits.{standing_of}

-- its link as it was hung up, the pass that came back from its session, and how that ended
pub record Connection (L : Type 0) : Type 0 where
  pub link : L
  pub pass : Seen
  pub how : How

-- the session of a connection that was hosted
abbrev pub session_of : {old new : World} {before after : Seen} {by : How}
    (h : Hosts old new before after by)
    → Session old new (standing_of h.first) (standing_of h.mid) by
session_of h = h.serves.over.session

-- an end by a fault comes only where the link counted one
abbrev pub HasFault : How → World → Type 0
HasFault how.ReadFault w = 0 < w.failed_reads
HasFault how.WriteFault w = 0 < w.failed_writes
HasFault other w = Unit {0}

-- A session was hosted on the first pass of a new room, over a link through which nothing had gone.
pub record WasServed {L : Type 0} (world : L → World) (quiet : Bool) (c : Connection L) : Type
    0 where
  pub came : World
  pub fresh : IsFresh came
  pub place : Place
  -- the link was written just the answers to the calls of the pass's history, each before the next
  -- read; behind them stands a shut, where a call was left
  pub hosts : Hosts came (world c.link) (new_pass place) c.pass c.how
  -- all that has gone through the link went in this session
  pub tape : IfSome (world c.link).tape (λ tape. tape ≡ (session_of hosts).added)
  -- in the room's whole history others' entries are work alone, and each mark of a slice was asked
  -- by this pass
  pub alone : IsAlone (new_pass place) c.pass c.pass.history
  -- without a worker there are none of others
  pub own : quiet ≡ true → All (λ e. e.by ≡ 0) c.pass.history
  pub fault : HasFault c.how (world c.link)
  -- too much is 2^62 bytes, or own entries for at least a quarter of a new room's calls
  pub much : c.how ≡ how.TooMuch → (2 ^ 62 ≤ length (ins (session_of hosts).added))
      ⊎ (2 ^ 56 ≤ 4 * length (all_own_of 0 (session_of hosts).entries))
