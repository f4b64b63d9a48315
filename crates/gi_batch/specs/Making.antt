-- What making one call does.
use Rattle.std.specs.Prelude.{◌≡◌, ◌≢◌, ◌⊎◌, true, false, [], ◌∷◌, Option, Some, None}
use Rattle.gi_model.specs.History.{Entry}
use Rattle.gi_model.specs.declared.calls.Call.{Call}
use Rattle.gi_model.specs.declared.replies.Reply.{Reply}
use Rattle.gi_model.specs.declared.replies.Reply.TheVariants as reply
use Rattle.gi_net.specs.Standing.{Standing}
use Rattle.gi_batch.specs.declared.answer.Stop.{Stop}
use Rattle.gi_batch.specs.declared.answer.Stop.TheVariants as stops
use Rattle.gi_batch.specs.Grown.{Grown}
use Rattle.gi_batch.specs.Done.{goes_on}

-- why it doesn't go on after a reply, if so
abbrev pub stop_after : Reply → Option Stop
stop_after reply.NoMemory = Some stops.NoMemory
stop_after (reply.Refused refusal) = Some stops.Denied
stop_after other = None

abbrev pub entry_of : Standing → Call → Reply → Entry
entry_of h what r = record { by = h.number; call = what; reply = r }

-- the call has its entry, and this reply
pub record IsMade (what : Call) (r : Reply) (old new : Standing) : Type 0 where
  pub grown : Grown old new (entry_of old what r ∷ [])

-- the call was answered, and it goes on
pub record Makes (what : Call) (told : Option Reply) (old new : Standing) : Type 0 where
  pub reply : Reply
  pub made : IsMade what reply old new
  pub told_is : told ≡ Some reply
  pub goes : goes_on reply ≡ true

-- the call was answered so that it doesn't go on
pub record MakesLast (what : Call) (old new : Standing) : Type 0 where
  pub reply : Reply
  pub made : IsMade what reply old new
  pub ends : goes_on reply ≡ false

-- why it doesn't go on
abbrev pub FailsBy : Stop → Call → Standing → Standing → Type 0
FailsBy stops.NoMemory what old new = Grown old new []
    ⊎ ((last : MakesLast what old new) × (last.reply ≡ reply.NoMemory))
FailsBy stops.TooMuch what old new = Grown old new [] × (new.left ≡ 0)
FailsBy stops.Denied what old new = (last : MakesLast what old new) × (last.reply ≢ reply.NoMemory)
FailsBy stops.WriteFault what old new = ⊥
