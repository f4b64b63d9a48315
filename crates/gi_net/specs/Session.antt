-- A session, from one state of its link and its caller to another.
use Rattle.std.specs.Prelude.{◌≡◌, ◌≢◌, ◌+◌, ◌^◌, ◌<◌, ◌≤◌, ◌⊎◌, List, [], ◌∷◌, ◌++◌, length}
use Rattle.std.specs.List.{AllByRecursion}
use Rattle.gi_outside.specs.Link.{Rose, ins, outs}
use Rattle.gi_outside.specs.Told.{Adds, Takes}
use Rattle.gi_outside.specs.World.{World}
use Rattle.gi_outside.specs.declared.link.Piece.{Piece}
use Rattle.gi_model.specs.History.{Entry}
use Rattle.gi_model.specs.declared.calls.Call.TheVariants as call
use Rattle.gi_model.specs.declared.replies.Reply.TheVariants as reply
use Rattle.gi_model.specs.declared.refusal.Refusal.TheVariants as refusal
use Rattle.gi_wire.specs.declared.reader.RequestKind.TheVariants as asked
use Rattle.gi_wire.specs.declared.reader.Request.{Request}
use Rattle.gi_net.specs.declared.how.How.{How}
use Rattle.gi_net.specs.declared.how.How.TheVariants as how
use Rattle.gi_net.specs.Answers.{Answer, answers, texts}
use Rattle.gi_net.specs.Entries.{WorksForWaits, all_own_of, own_of, replies}
use Rattle.gi_net.specs.Served.{EndsByBye, IsPrompt, IsShort, Served}
use Rattle.gi_net.specs.Standing.{Standing}

-- a fault has a cause
abbrev pub HasCause : How → World → World → Type 0
HasCause how.ReadFault old new = Rose old.failed_reads new.failed_reads
HasCause how.WriteFault old new = Rose old.failed_writes new.failed_writes
HasCause other old new = Unit {0}

-- the first of the items is a wait
abbrev pub IsWaitFirst : List Request → Type 0
IsWaitFirst [] = ⊥
IsWaitFirst (i ∷ is) = i.asked ≡ asked.Call call.Wait

pub record Session (old new : World) (before after : Standing) (by : How) : Type 0 where
  -- what the link's tape and the caller's history have grown by
  pub added : List Piece
  pub entries : List Entry
  pub tape : Adds old.tape new.tape added
  pub rest : Takes old.rest new.rest (ins added)
  pub reads : old.failed_reads ≤ new.failed_reads
  pub writes : old.failed_writes ≤ new.failed_writes
  pub number : after.number ≡ before.number
  pub history : after.history ≡ before.history ++ entries
  -- each own entry takes a call
  pub left : before.left ≡ after.left + length (all_own_of before.number entries)
  pub served : Served (ins added) new.ended (own_of before.number entries) (after.left ≡ 0)
      (outs added) by
  pub prompt : IsPrompt (own_of before.number entries) added
  pub pieces : AllByRecursion IsShort added
  -- own work comes from waits alone; at the end it is that of a wait that wasn't answered
  pub works : WorksForWaits (IsWaitFirst served.rest) (all_own_of before.number entries)
  pub cause : HasCause by old new

-- the answers of a session
abbrev pub given : {old new : World} {before after : Standing} {by : How}
    → Session old new before after by → List Answer
given {before = before} s = answers s.served.front (replies (own_of before.number s.entries))

-- the premises of a complete session: no fault, no want of memory, not too many bytes, no call to a
-- machine that is over, calls left
pub record Undisturbed (old new : World) (before after : Standing) (by : How)
    (s : Session old new before after by) : Type 0 where
  pub reads : ¬ Rose old.failed_reads new.failed_reads
  pub writes : ¬ Rose old.failed_writes new.failed_writes
  pub memory : by ≢ how.NoMemory
  pub bytes : length (ins s.added) < 2 ^ 62
  pub alive : AllByRecursion (λ a. a.reply ≢ reply.Refused refusal.Dead) (given s)
  pub calls : 0 < after.left

-- every item up to bye, or up to the end, was answered, and nothing else was written
pub record IsComplete (old new : World) (before after : Standing) (by : How)
    (s : Session old new before after by) : Type 0 where
  pub ends : (by ≡ how.Bye) ⊎ (by ≡ how.Eof)
  pub answered : (s.served.rest ≡ []) ⊎ EndsByBye (given s)
  pub out : outs s.added ≡ texts (given s)
