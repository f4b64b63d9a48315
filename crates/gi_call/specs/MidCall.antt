-- A client that goes on.
use Rattle.std.specs.Prelude.{◌≡◌, ◌≢◌, ℕ, ◌+◌, ◌-◌, ◌^◌, ◌<◌, ◌≤◌, ◌==◌, ◌⊎◌, if◌then◌else◌, Bool, true, false, List, [], ◌∷◌, ◌++◌, length, map, Option, Some, None, Result, Ok, Err}
use Rattle.std.specs.List.{AllByRecursion}
use Rattle.gi_text.specs.Lines.{Kept as Held}
use Rattle.gi_outside.specs.Link.{Rose, ins, outs}
use Rattle.gi_outside.specs.Told.{Adds, Takes}
use Rattle.gi_outside.specs.World.{IsCutFrom, World, Wrote, WroteCut}
use Rattle.gi_outside.specs.declared.link.Piece.{Piece}
use Rattle.gi_model.specs.declared.calls.Call.{Call}
use Rattle.gi_model.specs.declared.calls.Call.TheVariants as calls
use Rattle.gi_model.specs.declared.replies.Reply.{Reply}
use Rattle.gi_model.specs.declared.replies.Reply.TheVariants as reply
use Rattle.gi_kept.specs.Exchanges.{AreTrue, Exchange, kept_by}
use Rattle.gi_kept.specs.Kept.{Kept, nothing_kept}
use Rattle.gi_kept.specs.Truth.{IsTrueTo}
use Rattle.gi_wire.specs.CallText.{call_text}
use Rattle.gi_wire.specs.Items.{items}
use Rattle.gi_wire.specs.Source.{Comes, Source, ahead}
use Rattle.gi_wire.specs.Text.{text, words_text}
use Rattle.gi_wire.specs.declared.reader.RequestKind.TheVariants as asked
use Rattle.gi_wire.specs.declared.reader.Request.{Request}
use Rattle.gi_net.specs.Answers.{Answer, texts}
use Rattle.gi_net.specs.Served.{IsShort}
use Rattle.gi_call.specs.declared.end.CallEnd.{CallEnd}
use Rattle.gi_call.specs.declared.end.CallEnd.TheVariants as by
use Rattle.gi_call.specs.declared.asking.Asking.{Asking}
use Rattle.gi_call.specs.Called.{GoesOn, IsRight, IsRightAnswer}
use Rattle.gi_call.specs.Exchanged.{CanHave, Heard, IsNoAnswer, IsWhole, TakesTurns, call_texts, exchange_of, exchanges, first_line, most_answer}

-- The server's side so far: what was added to its tape, where these calls were answered and so much
-- was sent, and what of the bytes that were taken is left.
pub record Spoken (start now : World) (es : List Exchange) (sent : List ℕ) (lines : Held)
    (taken : ℕ) : Type 0 where
  pub added : List Piece
  pub tape : Adds start.tape now.tape added
  pub rest : Takes start.rest now.rest (ins added)
  pub reads : start.failed_reads ≤ now.failed_reads
  pub writes : start.failed_writes ≤ now.failed_writes
  pub sent_is : outs added ≡ sent
  pub taken_is : length (ins added) ≡ taken
  pub heard : Heard es lines.left lines.ended (ins added)
  pub closed : lines.ended ≡ true → now.ended ≡ true
  pub turns : TakesTurns es added
  pub pieces : AllByRecursion IsShort added

-- the server's side between two calls
pub record Exchanging (start now : World) (c : Asking) (es : List Exchange) : Type 0 where
  pub spoken : Spoken start now es (call_texts es) c.lines c.taken
  pub sent : c.sent ≡ length es
  pub kept : c.kept ≡ kept_by nothing_kept es
  pub models : AreTrue nothing_kept es

-- the server's side when a call was sent and not answered
pub record Awaiting (start now : World) (c : Asking) (call : Call) (es : List Exchange) : Type 0
  where
    pub spoken : Spoken start now es (call_texts es ++ call_text call) c.lines c.taken
    pub sent : c.sent ≡ length es
    pub kept : c.kept ≡ kept_by nothing_kept es
    pub models : AreTrue nothing_kept es

-- how much may still be read from a server
abbrev pub to_read : Bool → ℕ → ℕ
to_read ended taken = (2 ^ 62 + 4097 - taken) + (if ended then 0 else 1)

-- an answer that names a call's number names this one
abbrev pub is_named : Reply → ℕ → ℕ → Bool
is_named (reply.Refused r) named number = named == number
is_named other named number = true

-- an answer that isn't kept: a model that isn't true, or memory was wanting
abbrev pub Rejects : CallEnd → Reply → ℕ → Kept → Type 0
Rejects (by.FalseModel k) answer number kept = (k ≡ number)
    × ((model : List ℕ) × (answer ≡ reply.Model model) × ¬ IsTrueTo kept model)
Rejects by.NoMemory answer number kept = Unit {0}
Rejects other answer number kept = ⊥

-- how an answer ends the client, if it does
abbrev pub Closes : Option CallEnd → Reply → Type 0
Closes None answer = answer ≢ reply.Bye
Closes (Some by.Done) answer = answer ≡ reply.Bye
Closes (Some other) answer = ⊥

-- the server's side when the client ends in mid-call
pub record Stuck (start now : World) (es : List Exchange) (sent : List ℕ) : Type 0 where
  pub lines : Held
  pub taken : ℕ
  pub spoken : Spoken start now es sent lines taken

-- no line came, or a line that is too long
abbrev pub Unheard : CallEnd → ℕ → World → World → List Exchange → List ℕ → Type 0
Unheard (by.BadReply k) number start now es sent = (k ≡ number)
    × ((s : Stuck start now es sent) × (most_answer < length (first_line s.lines.left)))
Unheard by.Early number start now es sent = (s : Stuck start now es sent) × (s.lines.left ≡ [])
    × (s.lines.ended ≡ true)
Unheard by.ReadFault number start now es sent = Stuck start now es sent
    × Rose start.failed_reads now.failed_reads
Unheard by.NoMemory number start now es sent = (s : Stuck start now es sent)
    × (0 < length s.lines.left)
Unheard by.TooMuch number start now es sent = (s : Stuck start now es sent) × (2 ^ 62 ≤ s.taken)
Unheard other number start now es sent = ⊥

-- what a line tells as the answer to the call of this number
abbrev pub TellsAnswer : Result Reply CallEnd → Call → ℕ → List ℕ → Type 0
TellsAnswer (Ok answer) call number line = CanHave call answer × (words_text number answer ≡ line)
TellsAnswer (Err (by.BadReply k)) call number line = (k ≡ number) × IsNoAnswer call number line
TellsAnswer (Err by.NoMemory) call number line = Unit {0}
TellsAnswer (Err other) call number line = ⊥

-- the line that came is too long, or is no answer
abbrev pub HasNoAnswer : Call → ℕ → Held → Type 0
HasNoAnswer call number lines = (most_answer < length (first_line lines.left))
    ⊎ (IsWhole lines.ended lines.left × IsNoAnswer call number (first_line lines.left))

-- the line that came is a model that isn't true
pub record HasFalseModel (es : List Exchange) (call : Call) (number : ℕ) (lines : Held) : Type 0
  where
    pub call_is : call ≡ calls.Model
    pub whole : IsWhole lines.ended lines.left
    pub model : List ℕ
    pub line_is : first_line lines.left ≡ words_text number (reply.Model model)
    pub untrue : ¬ IsTrueTo (kept_by nothing_kept es) model

-- the text of a call was cut
pub record CutShort (call : Call) (start now : World) (es : List Exchange) : Type 0 where
  pub cut : List ℕ
  pub is_cut : IsCutFrom cut (call_text call)
  pub stuck : Stuck start now es (call_texts es ++ cut)
  pub cause : Rose start.failed_writes now.failed_writes

-- how a call ends the client
abbrev pub Stops : CallEnd → Call → World → World → List Exchange → Type 0
Stops (by.BadReply k) call start now es = (k ≡ length es + 1)
    × ((s : Stuck start now es (call_texts es ++ call_text call)) × HasNoAnswer call k s.lines)
Stops (by.FalseModel k) call start now es = (k ≡ length es + 1)
    × ((s : Stuck start now es (call_texts es ++ call_text call)) × HasFalseModel es call k s.lines)
Stops by.Early call start now es =
    (s : Stuck start now es (call_texts es ++ call_text call)) × (s.lines.left ≡ [])
    × (s.lines.ended ≡ true)
Stops by.ReadFault call start now es = Stuck start now es (call_texts es ++ call_text call)
    × Rose start.failed_reads now.failed_reads
Stops by.NoMemory call start now es =
    (s : Stuck start now es (call_texts es ++ call_text call)) × (0 < length s.lines.left)
Stops by.TooMuch call start now es =
    (s : Stuck start now es (call_texts es ++ call_text call)) × (2 ^ 62 ≤ s.taken)
Stops by.WriteFault call start now es = CutShort call start now es
Stops by.Done call start now es = ⊥

-- a call and its answer behind others
abbrev pub with_exchange : List Exchange → Call → Reply → List Exchange
with_exchange es call answer = es ++ record { call = call; reply = answer } ∷ []

-- what a call comes to: its answer, or the client's end
abbrev pub Answered : Result Reply CallEnd → Call → World → World → Asking → List Exchange → Type 0
Answered (Ok answer) call start now c es = Exchanging start now c (with_exchange es call answer)
    × CanHave call answer
Answered (Err end) call start now c es = Stops end call start now es

-- an item was answered
pub record Told (item : Request) (answer : Reply) (start now : World) (c : Asking)
    (es : List Exchange) : Type 0 where
  pub right : IsRight item.asked answer
  pub spoken : Exchanging start now c (es ++ exchange_of item.asked answer)

-- the answer was printed
pub record Prints (item : Request) (start now : World) (c : Asking) (es : List Exchange)
    (v w : World) (last : Reply → Type 0) : Type 0 where
  pub reply : Reply
  pub told : Told item reply start now c es
  pub wrote : Wrote v w (text item.line reply)
  pub ends : last reply

-- it was cut
pub record PrintsCut (item : Request) (start now : World) (c : Asking) (es : List Exchange)
    (v w : World) : Type 0 where
  pub reply : Reply
  pub told : Told item reply start now c es
  pub cut : WroteCut v w (text item.line reply)

-- the call of an item ended the client, and nothing was printed
pub record Breaks (end : CallEnd) (item : Request) (start now : World) (es : List Exchange)
    (v w : World) : Type 0 where
  pub what : Call
  pub asked_is : item.asked ≡ asked.Call what
  pub stops : Stops end what start now es
  pub same : w ≡ v

-- what answering an item comes to
abbrev pub AnswersItem : Option CallEnd → Request → World → World → Asking → List Exchange → World
    → World → Type 0
AnswersItem None item start now c es v w = Prints item start now c es v w (λ r. r ≢ reply.Bye)
AnswersItem (Some by.Done) item start now c es v w =
    Prints item start now c es v w (λ r. r ≡ reply.Bye)
AnswersItem (Some by.WriteFault) item start now c es v w = PrintsCut item start now c es v w
    ⊎ Breaks by.WriteFault item start now es v w
AnswersItem (Some end) item start now c es v w = Breaks end item start now es v w

-- what printing comes to
abbrev pub Tells : Option CallEnd → ℕ → Reply → World → World → Type 0
Tells None line answer v w = Wrote v w (text line answer) × (answer ≢ reply.Bye)
Tells (Some by.Done) line answer v w = Wrote v w (text line answer) × (answer ≡ reply.Bye)
Tells (Some by.WriteFault) line answer v w = WroteCut v w (text line answer)
Tells (Some other) line answer v w = ⊥

-- The user's side so far: what was added to its tape, the items that were answered, what is ahead
-- of the reader, and what was printed.
pub record Typed (start now : World) (source : Source) (taken : ℕ) (done : List Request)
    (printed : List ℕ) : Type 0 where
  pub added : List Piece
  pub tape : Adds start.tape now.tape added
  pub rest : Takes start.rest now.rest (ins added)
  pub reads : start.failed_reads ≤ now.failed_reads
  pub writes : start.failed_writes ≤ now.failed_writes
  pub printed_is : outs added ≡ printed
  pub taken_is : length (ins added) ≡ taken
  pub items_are : (ended : Bool) (more : List ℕ) → Comes source ended more
      → items ended (ins added ++ more) ≡ done ++ ahead source ended more
  pub pieces : AllByRecursion IsShort added

-- both sides so far: every answer was printed, none of them a bye
pub record Calling (server server' user user' : World) (c : Asking) (source : Source) (taken : ℕ) :
    Type 0 where
  pub given : List Answer
  pub typed : Typed user user' source taken (map (λ (a : Answer). a.item) given) (texts given)
  pub spoken : Exchanging server server' c (exchanges given)
  pub right : AllByRecursion IsRightAnswer given
  pub goes_on : AllByRecursion GoesOn given

-- how reading from the user ends the client
pub record Unread (user user' : World) (done : List Request) (printed : List ℕ) : Type 0 where
  pub source : Source
  pub taken : ℕ
  pub typed : Typed user user' source taken done printed
  pub not_ended : user'.ended ≡ false
  pub open_is : source.lines.ended ≡ false

abbrev pub Misses : CallEnd → World → World → List Request → List ℕ → Type 0
Misses by.ReadFault user user' done printed = ((u : Unread user user' done printed)
    × (ahead u.source false [] ≡ [])) × Rose user.failed_reads user'.failed_reads
Misses by.NoMemory user user' done printed = (u : Unread user user' done printed) × (0 < u.taken)
Misses other user user' done printed = ⊥
