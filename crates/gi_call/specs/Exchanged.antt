-- What goes to the server and comes from it.
use Rattle.std.specs.Prelude.{◌≡◌, ◌≢◌, ℕ, ◌+◌, ◌<◌, ◌⊎◌, Bool, true, List, [], ◌∷◌, ◌++◌, length, Option, Some, None, IsSome}
use Rattle.std.specs.List.{flat_map}
use Rattle.gi_text.specs.Lines.{line_at}
use Rattle.gi_outside.specs.declared.link.Piece.{Piece}
use Rattle.gi_outside.specs.declared.link.Piece.TheVariants.{In, Out}
use Rattle.gi_model.specs.declared.calls.Call.{Call}
use Rattle.gi_model.specs.declared.replies.Reply.{Reply}
use Rattle.gi_kept.specs.Exchanges.{Exchange}
use Rattle.gi_kept.specs.Replies.{may_answer}
use Rattle.gi_wire.specs.CallText.{call_text}
use Rattle.gi_wire.specs.ReplyRead.{IsTold}
use Rattle.gi_wire.specs.Text.{text, words_text}
use Rattle.gi_wire.specs.declared.reader.RequestKind.{RequestKind}
use Rattle.gi_wire.specs.declared.reader.RequestKind.TheVariants as asked
use Rattle.gi_net.specs.Answers.{Answer}

-- the most bytes of a server's line, its LF not counted
abbrev pub most_answer : ℕ
most_answer = 1073741824

-- a call that was answered is an exchange; what is no call isn't sent
abbrev pub exchange_of : RequestKind → Reply → List Exchange
exchange_of (asked.Call call) reply = record { call = call; reply = reply } ∷ []
exchange_of asked.Syntax reply = []
exchange_of asked.Long reply = []

unfoldable pub exchanges : List Answer → List Exchange
exchanges [] = []
exchanges (a ∷ more) = exchange_of a.item.asked a.reply ++ exchanges more

-- the texts of the calls
unfoldable pub call_texts : List Exchange → List ℕ
call_texts es = flat_map (λ (e : Exchange). call_text e.call) es

-- the texts of the answers, where so many came before; a refusal names the number of its call
unfoldable pub answer_texts : ℕ → List Exchange → List ℕ
answer_texts before [] = []
answer_texts before (e ∷ es) = text (before + 1) e.reply ++ answer_texts (before + 1) es

-- The bytes that came are the texts of these answers, and some behind them. The last text may lack
-- its LF where the server has ended.
abbrev pub Heard : List Exchange → List ℕ → Bool → List ℕ → Type 0
Heard es behind ended came = (came ≡ answer_texts 0 es ++ behind)
    ⊎ ((ended ≡ true) × (behind ≡ []) × (came ++ 10 ∷ [] ≡ answer_texts 0 es))

-- an answer that a call can have, with numbers in their ranges
pub record CanHave (call : Call) (reply : Reply) : Type 0 where
  pub may : may_answer call reply ≡ true
  pub range : IsTold 0 reply

-- the line is the text of no answer that the call of this number can have
pub record IsNoAnswer (call : Call) (number : ℕ) (line : List ℕ) : Type 0 where
  pub each : (reply : Reply) → CanHave call reply → words_text number reply ≢ line

abbrev pub before_lf : List ℕ → Option (List ℕ × List ℕ) → List ℕ
before_lf bytes None = bytes
before_lf bytes (Some p) = p.0

-- the first line, or what there is of it
abbrev pub first_line : List ℕ → List ℕ
first_line bytes = before_lf bytes (line_at bytes)

-- the first line is whole: its LF is there, or the input has ended
abbrev pub IsWhole : Bool → List ℕ → Type 0
IsWhole ended bytes = IsSome (line_at bytes) ⊎ ((ended ≡ true) × (0 < length bytes))

-- These bytes were written while those came: they are of calls that were answered before, and of
-- one more.
pub record IsTurn (es : List Exchange) (came written : List ℕ) : Type 0 where
  pub done : List Exchange
  pub later : List Exchange
  pub split : es ≡ done ++ later
  pub ended : Bool
  pub behind : List ℕ
  pub heard : Heard done behind ended came
  pub call : Call
  pub missing : List ℕ
  pub written_is : written ++ missing ≡ call_texts done ++ call_text call

-- every piece was written only when the calls before its own were answered
abbrev pub TurnsFrom : List Exchange → List ℕ → List ℕ → List Piece → Type 0
TurnsFrom es came written [] = Unit {0}
TurnsFrom es came written (In bytes ∷ tape) = TurnsFrom es (came ++ bytes) written tape
TurnsFrom es came written (Out bytes ∷ tape) = IsTurn es came (written ++ bytes)
    × TurnsFrom es came (written ++ bytes) tape

abbrev pub TakesTurns : List Exchange → List Piece → Type 0
TakesTurns es tape = TurnsFrom es [] [] tape
