-- Items and their answers.
use Rattle.std.specs.Prelude.{ℕ, List, [], ◌∷◌, ◌++◌, Option, Some, None, option_to_list}
use Rattle.std.specs.List.{flat_map}
use Rattle.gi_model.specs.declared.calls.Call.{Call}
use Rattle.gi_model.specs.declared.replies.Reply.{Reply}
use Rattle.gi_model.specs.declared.replies.Reply.TheVariants.{Refused, Spent}
use Rattle.gi_model.specs.declared.refusal.Refusal.TheVariants as refusal
use Rattle.gi_wire.specs.Text.{text}
use Rattle.gi_wire.specs.declared.reader.RequestKind.{RequestKind}
use Rattle.gi_wire.specs.declared.reader.RequestKind.TheVariants as asked
use Rattle.gi_wire.specs.declared.reader.Request.{Request}

abbrev pub call_in : RequestKind → Option Call
call_in (asked.Call call) = Some call
call_in asked.Syntax = None
call_in asked.Long = None

-- the calls among the items, in order
abbrev pub calls : List Request → List Call
calls [] = []
calls (i ∷ is) = option_to_list (call_in i.asked) ++ calls is

-- an item and its reply
pub record Answer : Type 0 where
  pub item : Request
  pub reply : Reply

-- a call takes the first reply; what is no call is refused
abbrev pub reply_for : RequestKind → List Reply → Reply
reply_for (asked.Call call) [] = Spent
reply_for (asked.Call call) (r ∷ rs) = r
reply_for asked.Syntax rs = Refused refusal.Syntax
reply_for asked.Long rs = Refused refusal.Long

abbrev pub replies_after : RequestKind → List Reply → List Reply
replies_after (asked.Call call) [] = []
replies_after (asked.Call call) (r ∷ rs) = rs
replies_after asked.Syntax rs = rs
replies_after asked.Long rs = rs

-- the items with the replies to their calls, in order
unfoldable pub answers : List Request → List Reply → List Answer
answers [] rs = []
answers (i ∷ is) rs = record { item = i; reply = reply_for i.asked rs }
    ∷ answers is (replies_after i.asked rs)

abbrev pub text_of : Answer → List ℕ
text_of a = text a.item.line a.reply

abbrev pub texts : List Answer → List ℕ
texts given = flat_map text_of given
