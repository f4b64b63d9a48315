-- Calls with their answers, in order.
use Rattle.std.specs.Prelude.{List, [], ◌∷◌}
use Rattle.gi_model.specs.declared.calls.Call.{Call}
use Rattle.gi_model.specs.declared.replies.Reply.{Reply}
use Rattle.gi_model.specs.declared.replies.Reply.TheVariants as reply
use Rattle.gi_kept.specs.Kept.{Kept, kept_after}
use Rattle.gi_kept.specs.Truth.{IsTrueTo}

-- a call and the answer to it
pub record Exchange : Type 0 where
  pub call : Call
  pub reply : Reply

-- what is kept after these, from this on
unfoldable pub kept_by : Kept → List Exchange → Kept
kept_by k [] = k
kept_by k (e ∷ es) = kept_by (kept_after k e.call e.reply) es

-- an answer that is a model is true to what is kept
abbrev pub IsTrueReply : Kept → Reply → Type 0
IsTrueReply k (reply.Model ls) = IsTrueTo k ls
IsTrueReply k other = Unit {0}

-- each model is true to what is kept before it
abbrev pub AreTrue : Kept → List Exchange → Type 0
AreTrue k [] = Unit {0}
AreTrue k (e ∷ es) = IsTrueReply k e.reply × AreTrue (kept_after k e.call e.reply) es
