-- How a session ends the program.
use Rattle.std.specs.Prelude.{◌≡◌, ℕ, ◌*◌, ◌^◌, ◌≤◌, ◌⊎◌, Bool, true, List, All, drop, length}
use Rattle.gi_outside.specs.Link.{ins}
use Rattle.gi_outside.specs.World.{World}
use Rattle.gi_net.specs.Session.{IsComplete, Session, Undisturbed}
use Rattle.gi_net.specs.declared.how.How.{How}
use Rattle.gi_net.specs.declared.how.How.TheVariants as how
use Rattle.gi_room.specs.Calls.{Sole}
use Rattle.gi_room.specs.Entries.{all_own_of}
use Rattle.gi_room.specs.Seen.{Seen}
use Rattle.gi_host.specs.Hosts.{Hosts}
use Rattle.gi_host.specs.Visits.{standing_of}
use Rattle.gi_run.specs.Shutting.{HasEnded, HasLostWork}

-- the exit status that tells how a session ended
abbrev pub exit_status : How → ℕ
exit_status how.Bye = 0
exit_status how.Eof = 0
exit_status how.NoMemory = 3
exit_status how.ReadFault = 4
exit_status how.WriteFault = 5
exit_status how.TooMuch = 8
exit_status how.Dead = 9

-- the session of those that were hosted
abbrev pub session_of : {old new : World} {before after : Seen} {by : How}
    (h : Hosts old new before after by)
    → Session old new (standing_of h.first) (standing_of h.mid) by
session_of h = h.serves.over.session

-- a session was hosted on a pass, and each end has its cause
pub record HasHosted (old new : World) (before after : Seen) (by : How) : Type 0 where
  pub hosts : Hosts old new before after by
  -- a call is refused for good only where the machine is over
  pub over : by ≡ how.Dead → HasEnded hosts.mid.history
  -- and where it wasn't before, and nobody else may call, only because work found no memory
  pub lost : by ≡ how.Dead → Sole before → ¬ HasEnded before.history
      → HasLostWork (session_of hosts).entries
  -- the calls are used up only where at least a quarter of the pass's calls were
  pub used : by ≡ how.TooMuch → (2 ^ 62 ≤ length (ins (session_of hosts).added))
      ⊎ (before.left ≤ 4 * length (all_own_of before.number (session_of hosts).entries))
  -- where nothing disturbs it, every item up to bye or the end is answered
  pub whole : Undisturbed old new (standing_of hosts.first) (standing_of hosts.mid) by
      (session_of hosts)
      → IsComplete old new (standing_of hosts.first) (standing_of hosts.mid) by (session_of hosts)

-- so it was, and the status tells how it ended
pub record Runs (quiet : Bool) (old new : World) (before after : Seen) (status : ℕ) : Type 0 where
  pub by : How
  pub has : HasHosted old new before after by
  -- without a worker all entries are the session's, where nobody else may call
  pub own : quiet ≡ true → Sole before
      → All (λ e. e.by ≡ before.number) (drop (length before.history) after.history)
  pub status_is : status ≡ exit_status by
  pub fine : Undisturbed old new (standing_of has.hosts.first) (standing_of has.hosts.mid) by
      (session_of has.hosts)
      → status ≡ 0
