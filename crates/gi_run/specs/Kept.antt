-- A pass of a new room, and what the history keeps of one that is used alone.
use Rattle.std.specs.Prelude.{◌≡◌, ◌≢◌, ℕ, ◌^◌, ◌≤◌, List, [], All}
use Rattle.gi_model.specs.History.{Entry, IsLegal}
use Rattle.gi_model.specs.declared.calls.Call.TheVariants as call
use Rattle.gi_model.specs.declared.replies.Reply.TheVariants as reply
use Rattle.gi_room.specs.Calls.{Sole}
use Rattle.gi_room.specs.Seen.{Seen}

-- a pass of a new room, which nobody else may use, with no more calls than a room gives
pub record IsNew (p : Seen) : Type 0 where
  pub sole : Sole p
  pub history : p.history ≡ []
  pub asked : p.asked ≡ []
  pub left : p.left ≤ 2 ^ 56

-- an entry of the pass itself, by its number, and no work that was told to stop or had no running
-- solve
pub record IsOwn (number : ℕ) (e : Entry) : Type 0 where
  pub by : e.by ≡ number
  pub unmarked : (mark : ℕ) → e.call ≡ call.Work mark → mark ≡ 0
  pub busy : e.reply ≢ reply.Idle

-- it is a legal history of one machine, and nobody else has called
pub record IsHistory (number : ℕ) (es : List Entry) : Type 0 where
  pub legal : IsLegal es
  pub own : All (IsOwn number) es
