-- What one call does to its caller.
use Rattle.std.specs.Prelude.{◌≡◌, ℕ, ◌+◌, ◌<◌, ◌⊎◌, true, List, [], ◌∷◌, ◌++◌, length, Option, Some}
use Rattle.gi_model.specs.History.{Entry}
use Rattle.gi_model.specs.declared.calls.Call.{Call}
use Rattle.gi_model.specs.declared.calls.Call.TheVariants as call
use Rattle.gi_model.specs.declared.replies.Reply.{Reply}
use Rattle.gi_model.specs.declared.replies.Reply.TheVariants as reply
use Rattle.gi_model.specs.declared.refusal.Refusal.TheVariants as refusal
use Rattle.gi_wire.specs.Text.{is_answer}
use Rattle.gi_net.specs.declared.caller.Answered.{Answered}
use Rattle.gi_net.specs.declared.caller.Answered.TheVariants as answered
use Rattle.gi_net.specs.Entries.{all_own_of, own_of}
use Rattle.gi_net.specs.Standing.{Standing}

-- a reply that a caller's call may have: bye alone is answered bye, and it is, unless the machine
-- is over
pub record IsReplyTo (what : Call) (answer : Reply) : Type 0 where
  pub told : is_answer answer ≡ true
  pub bye : what ≡ call.Bye → (answer ≡ reply.Bye) ⊎ (answer ≡ reply.Refused refusal.Dead)
  pub only_bye : answer ≡ reply.Bye → what ≡ call.Bye

-- what comes before the entry of a call: entries of others, and own work where the call is a wait
pub record ComesBefore (number : ℕ) (what : Call) (entries : List Entry) : Type 0 where
  pub no_call : own_of number entries ≡ []
  pub waits : (all_own_of number entries ≡ []) ⊎ (what ≡ call.Wait)

-- the call was answered by its own entry, the last of the history
pub record Enters (what : Call) (answer : Option Reply) (old new : Standing) : Type 0 where
  pub reply : Reply
  pub answer_is : answer ≡ Some reply
  pub may_be : IsReplyTo what reply
  pub before : List Entry
  pub comes_before : ComesBefore old.number what before
  pub number : new.number ≡ old.number
  pub history : new.history
      ≡ old.history ++ (before ++ record { by = old.number; call = what; reply = reply } ∷ [])
  pub left : old.left ≡ new.left + length (all_own_of old.number before) + 1

-- the call has no entry
pub record BreaksOff (what : Call) (old new : Standing) : Type 0 where
  pub before : List Entry
  pub comes_before : ComesBefore old.number what before
  pub number : new.number ≡ old.number
  pub history : new.history ≡ old.history ++ before
  pub left : old.left ≡ new.left + length (all_own_of old.number before)

-- an entry is wanting exactly where no call was left, but for want of memory
abbrev pub Makes : Answered → Call → Option Reply → Standing → Standing → Type 0
Makes answered.Recorded what answer old new = Enters what answer old new
Makes answered.NoMemory what answer old new = BreaksOff what old new × (0 < new.left)
Makes answered.Spent what answer old new = BreaksOff what old new × (new.left ≡ 0)
