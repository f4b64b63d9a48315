-- How a machine ends.
use Rattle.std.specs.Prelude.{◌≡◌, ◌⊎◌, true, List, Contains}
use Rattle.gi_model.specs.History.{Entry}
use Rattle.gi_model.specs.declared.calls.Call.TheVariants as call
use Rattle.gi_model.specs.declared.replies.Reply.TheVariants as reply
use Rattle.gi_net.specs.Entries.{is_work}

-- an entry by which the machine is over: a shut, or one that was answered for want of memory
abbrev pub EndsSolve : Entry → Type 0
EndsSolve e = ((e.call ≡ call.Shut) × (e.reply ≡ reply.Done)) ⊎ (e.reply ≡ reply.NoMemory)

-- some entry is such a one
abbrev pub HasEnded : List Entry → Type 0
HasEnded es = (e : Entry) × Contains es e × EndsSolve e

-- some work found no memory
abbrev pub HasLostWork : List Entry → Type 0
HasLostWork es = (e : Entry) × Contains es e × (is_work e.call ≡ true) × (e.reply ≡ reply.NoMemory)
