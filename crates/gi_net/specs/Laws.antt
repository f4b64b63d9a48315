-- What a machine answers to its callers.
use Rattle.std.specs.Prelude.{◌≡◌, true}
use Rattle.gi_model.specs.Fits.{fits}
use Rattle.gi_model.specs.History.{Allows}
use Rattle.gi_model.specs.State.{State}
use Rattle.gi_model.specs.declared.calls.Call.{Call}
use Rattle.gi_model.specs.declared.replies.Reply.{Reply}
use Rattle.gi_net.specs.Calls.{IsReplyTo}

-- what a state allows as the reply to a call that fits is a reply that a caller's call may have
abbrev pub AllowedIsReply : Type 0
AllowedIsReply = (s : State) (what : Call) (answer : Reply) → fits what ≡ true
    → Allows s what answer → IsReplyTo what answer
