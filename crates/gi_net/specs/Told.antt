-- What answering one item does.
use Rattle.std.specs.Prelude.{◌≡◌, ◌≢◌, ℕ, ◌+◌, ◌⊎◌, List, [], ◌∷◌, ◌++◌, length, false, Option, Some, None}
use Rattle.gi_outside.specs.World.{World, Wrote, WroteCut}
use Rattle.gi_model.specs.History.{Entry}
use Rattle.gi_model.specs.declared.calls.Call.{Call}
use Rattle.gi_model.specs.declared.calls.Call.TheVariants as call
use Rattle.gi_model.specs.declared.replies.Reply.{Reply}
use Rattle.gi_model.specs.declared.replies.Reply.TheVariants as reply
use Rattle.gi_model.specs.declared.refusal.Refusal.TheVariants as refusal
use Rattle.gi_wire.specs.Text.{text}
use Rattle.gi_wire.specs.declared.reader.RequestKind.{RequestKind}
use Rattle.gi_wire.specs.declared.reader.RequestKind.TheVariants as asked
use Rattle.gi_wire.specs.declared.reader.Request.{Request}
use Rattle.gi_net.specs.declared.how.How.{How}
use Rattle.gi_net.specs.declared.how.How.TheVariants as how
use Rattle.gi_net.specs.Calls.{BreaksOff, IsReplyTo}
use Rattle.gi_net.specs.Entries.{all_own_of, is_work, own_of}
use Rattle.gi_net.specs.Standing.{Standing}

-- how a reply ends a session, if it does
abbrev pub Closes : Option How → Reply → Type 0
Closes None r = (r ≢ reply.Bye) × (r ≢ reply.NoMemory) × (r ≢ reply.Refused refusal.Dead)
Closes (Some how.Bye) r = r ≡ reply.Bye
Closes (Some how.NoMemory) r = r ≡ reply.NoMemory
Closes (Some how.Dead) r = r ≡ reply.Refused refusal.Dead
Closes (Some how.Eof) r = ⊥
Closes (Some how.ReadFault) r = ⊥
Closes (Some how.WriteFault) r = ⊥
Closes (Some how.TooMuch) r = ⊥

-- the text of a reply was written whole, and the reply ends the session or not; or it was cut
abbrev pub TellsReply : Option How → ℕ → Reply → World → World → Type 0
TellsReply None line r old new = Wrote old new (text line r) × Closes None r
TellsReply (Some how.WriteFault) line r old new = WroteCut old new (text line r)
TellsReply (Some by) line r old new = Wrote old new (text line r) × Closes (Some by) r

-- the entry that an item makes: none where it is no call
abbrev pub entry_of : ℕ → RequestKind → Reply → List Entry
entry_of number (asked.Call what) r = record { by = number; call = what; reply = r } ∷ []
entry_of number asked.Syntax r = []
entry_of number asked.Long r = []

-- a reply that an item may have
abbrev pub AnswersRequest : RequestKind → Reply → Type 0
AnswersRequest (asked.Call what) r = IsReplyTo what r × (is_work what ≡ false)
AnswersRequest asked.Syntax r = r ≡ reply.Refused refusal.Syntax
AnswersRequest asked.Long r = r ≡ reply.Refused refusal.Long

-- an item was answered: a call by the entry of the caller of this number, and what is no call by
-- none
pub record TookAs (n : ℕ) (item : RequestKind) (r : Reply) (old new : Standing) : Type 0 where
  pub may_be : AnswersRequest item r
  pub before : List Entry
  pub no_call : own_of n before ≡ []
  pub waits : (all_own_of n before ≡ []) ⊎ (item ≡ asked.Call call.Wait)
  pub number : new.number ≡ old.number
  pub history : new.history ≡ old.history ++ (before ++ entry_of n item r)
  pub left : old.left ≡ new.left + length (all_own_of n before) + length (entry_of n item r)

abbrev pub Took : RequestKind → Reply → Standing → Standing → Type 0
Took item r old new = TookAs old.number item r old new

-- the answer to an item was written
pub record Told (by : Option How) (item : Request) (h k : Standing) (v w : World) : Type 0 where
  pub reply : Reply
  pub took : Took item.asked reply h k
  pub wrote : Wrote v w (text item.line reply)
  pub closes : Closes by reply

-- it was not written whole
pub record ToldCut (item : Request) (h k : Standing) (v w : World) : Type 0 where
  pub reply : Reply
  pub took : Took item.asked reply h k
  pub cut : WroteCut v w (text item.line reply)

-- a call that has no entry
pub record Unanswered (item : Request) (h k : Standing) : Type 0 where
  pub what : Call
  pub asked_is : item.asked ≡ asked.Call what
  pub breaks : BreaksOff what h k

-- what answering an item does; a call has no entry where its caller lacked memory, or had no call
-- left
abbrev pub AnswersItem : Option How → Request → Standing → Standing → Type 0 → World → World
    → Type 0
AnswersItem None item h k starved v w = Told None item h k v w
AnswersItem (Some how.WriteFault) item h k starved v w = ToldCut item h k v w
    ⊎ (Unanswered item h k × starved × WroteCut v w (text 0 reply.NoMemory))
AnswersItem (Some how.TooMuch) item h k starved v w = Unanswered item h k × (k.left ≡ 0) × (w ≡ v)
AnswersItem (Some how.NoMemory) item h k starved v w = Told (Some how.NoMemory) item h k v w
    ⊎ (Unanswered item h k × starved × Wrote v w (text 0 reply.NoMemory))
AnswersItem (Some by) item h k starved v w = Told (Some by) item h k v w

-- `nomem` was written, or a front of it
abbrev pub TellsNoMemory : How → World → World → Type 0
TellsNoMemory how.NoMemory v w = Wrote v w (text 0 reply.NoMemory)
TellsNoMemory how.WriteFault v w = WroteCut v w (text 0 reply.NoMemory)
TellsNoMemory other v w = ⊥
