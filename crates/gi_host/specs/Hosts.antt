-- A session that is hosted: beside it a worker, behind it a shut.
use Rattle.std.specs.Prelude.{◌≡◌, ◌≢◌, ℕ, ◌*◌, ◌<◌, ◌≤◌, ◌⊎◌, true, List, [], ◌∷◌, ◌++◌, All, Contains, Option, Some, None, slice_get}
use Rattle.gi_outside.specs.World.{World}
use Rattle.gi_model.specs.History.{Entry, IsLegal}
use Rattle.gi_model.specs.Refusals.{is_work}
use Rattle.gi_model.specs.declared.calls.Call.TheVariants as call
use Rattle.gi_model.specs.declared.replies.Reply.{Reply}
use Rattle.gi_net.specs.Over.{Over}
use Rattle.gi_net.specs.declared.how.How.{How}
use Rattle.gi_room.specs.Entries.{own_of}
use Rattle.gi_room.specs.Histories.{mark_of}
use Rattle.gi_room.specs.Seen.{Seen}
use Rattle.gi_room.specs.Calls.{Calls, HoldsAsBefore, Joins, Sole}
use Rattle.gi_host.specs.Visits.{Visits, standing_of, visit}

-- A session was served on a pass: the link was written just the answers to the calls that the
-- pass's history has grown by. The pass never lacks memory for an entry.
pub record Serves (old new : World) (before after : Seen) (by : How) : Type 0 where
  pub over : Over old new (standing_of before) (standing_of after) ⊥ by
  pub started : Option ℕ
  pub visits : Visits (visit before None) (visit after started)
  pub legal : IsLegal after.history

-- one call more, to shut the machine, where a call is left
abbrev pub Shuts : Seen → Seen → Type 0
Shuts mid after = ((mid.left ≡ 0) × (after ≡ mid))
    ⊎ ((0 < mid.left) × ((answer : Reply) × Calls call.Shut answer mid after
    × HoldsAsBefore mid after))

-- a session, the pass that was kept back joined to its own, and the shut behind it
pub record Closes (old new : World) (before spare after : Seen) (by : How) : Type 0 where
  pub mid : Seen
  pub serves : Serves old new before mid by
  pub whole : Seen
  pub joins : Joins mid spare whole
  pub shuts : Shuts whole after

-- no call of the session's number, or one that shuts the machine
abbrev pub IsShutAlone : ℕ → List Entry → Type 0
IsShutAlone number entries = (own_of number entries ≡ [])
    ⊎ ((answer : Reply) × (own_of number entries ≡ record {
      by = number;
      call = call.Shut;
      reply = answer;
    } ∷ []))

-- nobody else has called: others' entries are work alone, and each mark of a slice of work was
-- asked before it, by the pass that came back
pub record IsAlone (before after : Seen) (entries : List Entry) : Type 0 where
  pub sole : Sole after
  pub others : All (λ e. e.by ≢ before.number → is_work e.call ≡ true) entries
  pub marks : (k : ℕ) (e : Entry) → slice_get after.history k ≡ Some e → mark_of e.call ≢ 0
      → (l : ℕ) × (l ≤ k) × Contains after.asked (mark_of e.call, l)

-- a session was hosted
pub record Hosts (old new : World) (before after : Seen) (by : How) : Type 0 where
  -- the pass as the session had it first, with at least a quarter of the calls, and last
  pub first : Seen
  pub mid : Seen
  pub number : first.number ≡ before.number
  pub history : first.history ≡ before.history
  pub asked : first.asked ≡ before.asked
  pub quarter : before.left ≤ 4 * first.left
  pub serves : Serves old new first mid by
  -- and what came behind it
  pub behind : List Entry
  pub after_history : after.history ≡ mid.history ++ behind
  pub after_place : after.place ≡ before.place
  pub after_number : after.number ≡ before.number
  pub after_asked : after.asked ≡ mid.asked
  pub shut : IsShutAlone before.number behind
  -- no shut stands there only where no call was left
  pub spent : own_of before.number behind ≡ [] → mid.left ≡ 0
  pub legal : IsLegal after.history
  pub alone : Sole before → IsAlone before after (serves.visits.entries ++ behind)
