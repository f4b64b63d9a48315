-- What a client has asked and printed when it ends.
use Rattle.std.specs.Prelude.{◌≡◌, ◌≢◌, ℕ, ◌+◌, ◌^◌, ◌<◌, ◌≤◌, ◌⊎◌, Bool, true, false, List, [], ◌∷◌, ◌++◌, length, map}
use Rattle.std.specs.List.{AllByRecursion}
use Rattle.gi_outside.specs.Link.{Rose, ins, outs}
use Rattle.gi_outside.specs.Told.{Adds, Takes}
use Rattle.gi_outside.specs.World.{IsCutFrom, World}
use Rattle.gi_outside.specs.declared.link.Piece.{Piece}
use Rattle.gi_model.specs.declared.calls.Call.{Call}
use Rattle.gi_model.specs.declared.calls.Call.TheVariants as calls
use Rattle.gi_model.specs.declared.replies.Reply.{Reply}
use Rattle.gi_model.specs.declared.replies.Reply.TheVariants as reply
use Rattle.gi_model.specs.declared.refusal.Refusal.TheVariants as refusal
use Rattle.gi_kept.specs.Exchanges.{AreTrue, kept_by}
use Rattle.gi_kept.specs.Kept.{nothing_kept}
use Rattle.gi_kept.specs.Truth.{IsTrueTo}
use Rattle.gi_wire.specs.CallText.{call_text, has_line}
use Rattle.gi_wire.specs.Items.{item, items}
use Rattle.gi_wire.specs.Text.{words_text}
use Rattle.gi_wire.specs.declared.reader.RequestKind.{RequestKind}
use Rattle.gi_wire.specs.declared.reader.RequestKind.TheVariants as asked
use Rattle.gi_wire.specs.declared.reader.Request.{Request}
use Rattle.gi_net.specs.Answers.{Answer, text_of, texts}
use Rattle.gi_net.specs.Served.{IsShort}
use Rattle.gi_call.specs.declared.end.CallEnd.{CallEnd}
use Rattle.gi_call.specs.declared.end.CallEnd.TheVariants as by
use Rattle.gi_call.specs.Exchanged.{CanHave, Heard, IsNoAnswer, IsWhole, TakesTurns, call_texts, exchanges, first_line, most_answer}

-- the answer that an item gets: a call one that it can have, what is no call its refusal
abbrev pub IsRight : RequestKind → Reply → Type 0
IsRight (asked.Call call) answer = CanHave call answer
IsRight asked.Syntax answer = answer ≡ reply.Refused refusal.Syntax
IsRight asked.Long answer = answer ≡ reply.Refused refusal.Long

abbrev pub IsRightAnswer : Answer → Type 0
IsRightAnswer a = IsRight a.item.asked a.reply

-- what is asked has a line
abbrev pub CanSend : RequestKind → Type 0
CanSend (asked.Call call) = has_line call ≡ true
CanSend asked.Syntax = Unit {0}
CanSend asked.Long = Unit {0}

-- an answer after which the client goes on
abbrev pub GoesOn : Answer → Type 0
GoesOn a = a.reply ≢ reply.Bye

-- what has come and gone
pub record Talk : Type 0 where
  pub given : List Answer  -- the items that were answered
  pub rest : List Request  -- the items behind them
  pub asked : List ℕ  -- what the user gave
  pub printed : List ℕ  -- what the user was written
  pub sent : List ℕ  -- what the server was written
  pub came : List ℕ  -- what the server gave
  pub user_ended : Bool
  pub server_ended : Bool

-- by the two tapes
abbrev pub talk : List Answer → List Request → List Piece → List Piece → Bool → Bool → Talk
talk given rest spoken typed server_ended user_ended = record {
  given = given;
  rest = rest;
  asked = ins typed;
  printed = outs typed;
  sent = outs spoken;
  came = ins spoken;
  user_ended = user_ended;
  server_ended = server_ended;
}

-- every answer was printed, and no other call was sent
pub record IsEven (t : Talk) : Type 0 where
  pub printed : t.printed ≡ texts t.given
  pub sent : t.sent ≡ call_texts (exchanges t.given)
  pub behind : List ℕ
  pub heard : Heard (exchanges t.given) behind t.server_ended t.came
  pub right : AllByRecursion IsRightAnswer t.given

-- Every answer was printed, and the call of the next item was sent, whole, as the call of this
-- number. Behind the answers before it these bytes came.
pub record IsAwaiting (t : Talk) (call : Call) (number : ℕ) (behind : List ℕ) : Type 0 where
  pub printed : t.printed ≡ texts t.given
  pub sent : t.sent ≡ call_texts (exchanges t.given) ++ call_text call
  pub heard : Heard (exchanges t.given) behind t.server_ended t.came
  pub right : AllByRecursion IsRightAnswer t.given
  pub goes_on : AllByRecursion GoesOn t.given
  pub line : ℕ
  pub later : List Request
  pub next : t.rest ≡ item line (asked.Call call) ∷ later
  pub number_is : number ≡ length (exchanges t.given) + 1

-- the same, for some call
pub record IsMidCall (t : Talk) : Type 0 where
  pub call : Call
  pub number : ℕ
  pub behind : List ℕ
  pub awaits : IsAwaiting t call number behind

-- the last answer is the first bye, to a bye
pub record EndsByBye (given : List Answer) : Type 0 where
  pub before : List Answer
  pub last : Answer
  pub split : given ≡ before ++ last ∷ []
  pub goes_on : AllByRecursion GoesOn before
  pub asked_is : last.item.asked ≡ asked.Call calls.Bye
  pub is : last.reply ≡ reply.Bye

-- or no answer is a bye, and the user has ended and every item was answered
abbrev pub IsOver : Talk → Type 0
IsOver t = EndsByBye t.given
    ⊎ (AllByRecursion GoesOn t.given × (t.user_ended ≡ true) × (t.rest ≡ []))

-- the line that came is too long, or is no answer that the call can have
pub record IsBad (t : Talk) (number : ℕ) : Type 0 where
  pub call : Call
  pub behind : List ℕ
  pub awaits : IsAwaiting t call number behind
  pub bad : (most_answer < length (first_line behind))
      ⊎ (IsWhole t.server_ended behind × IsNoAnswer call number (first_line behind))

-- the line that came is a model, and isn't true to what is kept
pub record IsFalse (t : Talk) (number : ℕ) : Type 0 where
  pub behind : List ℕ
  pub awaits : IsAwaiting t calls.Model number behind
  pub whole : IsWhole t.server_ended behind
  pub model : List ℕ
  pub line_is : first_line behind ≡ words_text number (reply.Model model)
  pub untrue : ¬ IsTrueTo (kept_by nothing_kept (exchanges t.given)) model

-- the server has ended, and gave no answer
pub record IsEarly (t : Talk) : Type 0 where
  pub call : Call
  pub number : ℕ
  pub awaits : IsAwaiting t call number []
  pub ended : t.server_ended ≡ true

-- the text of a call was cut
pub record IsCutCall (t : Talk) : Type 0 where
  pub printed : t.printed ≡ texts t.given
  pub line : ℕ
  pub call : Call
  pub later : List Request
  pub next : t.rest ≡ item line (asked.Call call) ∷ later
  pub cut : List ℕ
  pub is_cut : IsCutFrom cut (call_text call)
  pub sent : t.sent ≡ call_texts (exchanges t.given) ++ cut
  pub behind : List ℕ
  pub heard : Heard (exchanges t.given) behind t.server_ended t.came
  pub right : AllByRecursion IsRightAnswer t.given
  pub goes_on : AllByRecursion GoesOn t.given

-- the text of the last answer was cut
pub record IsCutAnswer (t : Talk) : Type 0 where
  pub before : List Answer
  pub last : Answer
  pub split : t.given ≡ before ++ last ∷ []
  pub goes_on : AllByRecursion GoesOn before
  pub cut : List ℕ
  pub is_cut : IsCutFrom cut (text_of last)
  pub printed : t.printed ≡ texts before ++ cut
  pub sent : t.sent ≡ call_texts (exchanges t.given)
  pub behind : List ℕ
  pub heard : Heard (exchanges t.given) behind t.server_ended t.came
  pub right : AllByRecursion IsRightAnswer t.given

-- between two items, with more of the user to come
pub record IsBetween (t : Talk) : Type 0 where
  pub even : IsEven t
  pub goes_on : AllByRecursion GoesOn t.given
  pub answered : t.rest ≡ []
  pub not_ended : t.user_ended ≡ false

-- the user gave a byte, or has ended
abbrev pub HasRead : Talk → Type 0
HasRead t = (0 < length t.asked) ⊎ (t.user_ended ≡ true)

-- how a client ends
abbrev pub Ends : CallEnd → Talk → Type 0
Ends by.Done t = IsEven t × IsOver t
Ends (by.BadReply number) t = IsBad t number
Ends (by.FalseModel number) t = IsFalse t number
Ends by.Early t = IsEarly t
Ends by.ReadFault t = IsBetween t ⊎ IsMidCall t
Ends by.WriteFault t = IsCutCall t ⊎ IsCutAnswer t
Ends by.NoMemory t = (IsEven t × AllByRecursion GoesOn t.given × HasRead t)
    ⊎ ((m : IsMidCall t) × (0 < length m.behind))
Ends by.TooMuch t = (IsBetween t × (2 ^ 62 ≤ length t.asked))
    ⊎ (IsMidCall t × (2 ^ 62 ≤ length t.came))

-- a fault has a cause, at the server or at the user
abbrev pub HasCause : CallEnd → World → World → World → World → Type 0
HasCause by.ReadFault server server' user user' =
    Rose server.failed_reads server'.failed_reads ⊎ Rose user.failed_reads user'.failed_reads
HasCause by.WriteFault server server' user user' =
    Rose server.failed_writes server'.failed_writes ⊎ Rose user.failed_writes user'.failed_writes
HasCause other server server' user user' = Unit {0}

-- a client, from one state of its links to another
pub record Called (server server' user user' : World) (end : CallEnd) : Type 0 where
  -- what the tapes have grown by
  pub spoken : List Piece
  pub typed : List Piece
  pub server_tape : Adds server.tape server'.tape spoken
  pub server_rest : Takes server.rest server'.rest (ins spoken)
  pub user_tape : Adds user.tape user'.tape typed
  pub user_rest : Takes user.rest user'.rest (ins typed)
  pub server_reads : server.failed_reads ≤ server'.failed_reads
  pub server_writes : server.failed_writes ≤ server'.failed_writes
  pub user_reads : user.failed_reads ≤ user'.failed_reads
  pub user_writes : user.failed_writes ≤ user'.failed_writes
  -- a read asks for few bytes
  pub server_pieces : AllByRecursion IsShort spoken
  pub user_pieces : AllByRecursion IsShort typed
  -- the items that were answered, and those behind them
  pub given : List Answer
  pub rest : List Request
  pub split : items user'.ended (ins typed) ≡ map (λ (a : Answer). a.item) given ++ rest
  -- a call is sent when those before it were answered
  pub turns : TakesTurns (exchanges given) spoken
  -- every model that was accepted is true to what was kept
  pub models : AreTrue nothing_kept (exchanges given)
  pub ends : Ends end (talk given rest spoken typed server'.ended user'.ended)
  pub cause : HasCause end server server' user user'
