-- What a session has answered when it ends.
use Rattle.std.specs.Prelude.{◌≡◌, ◌≢◌, ℕ, ◌^◌, ◌<◌, ◌≤◌, ◌⊎◌, Bool, true, false, List, [], ◌∷◌, ◌++◌, length, map}
use Rattle.std.specs.List.{AllByRecursion}
use Rattle.gi_outside.specs.World.{IsCutFrom}
use Rattle.gi_outside.specs.declared.link.Piece.{Piece}
use Rattle.gi_outside.specs.declared.link.Piece.TheVariants.{In, Out}
use Rattle.gi_model.specs.History.{Entry}
use Rattle.gi_model.specs.declared.calls.Call.TheVariants as call
use Rattle.gi_model.specs.declared.replies.Reply.{Reply}
use Rattle.gi_model.specs.declared.replies.Reply.TheVariants as reply
use Rattle.gi_model.specs.declared.refusal.Refusal.TheVariants as refusal
use Rattle.gi_wire.specs.Items.{items}
use Rattle.gi_wire.specs.Text.{text}
use Rattle.gi_wire.specs.declared.reader.RequestKind.TheVariants as asked
use Rattle.gi_wire.specs.declared.reader.Request.{Request}
use Rattle.gi_net.specs.declared.how.How.{How}
use Rattle.gi_net.specs.declared.how.How.TheVariants as how
use Rattle.gi_net.specs.Answers.{Answer, answers, calls, text_of, texts}
use Rattle.gi_net.specs.Entries.{replies}

-- an answer after which the session goes on
pub record IsQuiet (a : Answer) : Type 0 where
  pub no_bye : a.reply ≢ reply.Bye
  pub memory : a.reply ≢ reply.NoMemory
  pub alive : a.reply ≢ reply.Refused refusal.Dead
  pub not_bye : a.item.asked ≢ asked.Call call.Bye

-- the session goes on after all answers but the last, which is this
pub record EndsBy (given : List Answer) (reply : Reply) : Type 0 where
  pub before : List Answer
  pub last : Answer
  pub split : given ≡ before ++ last ∷ []
  pub quiet : AllByRecursion IsQuiet before
  pub is : last.reply ≡ reply

-- the first bye was answered bye
pub record EndsByBye (given : List Answer) : Type 0 where
  pub by : EndsBy given reply.Bye
  pub asked : by.last.item.asked ≡ asked.Call call.Bye

-- all answers were written but the last, of which a front was that lacks its last byte
pub record CutShort (given : List Answer) (out : List ℕ) : Type 0 where
  pub before : List Answer
  pub last : Answer
  pub split : given ≡ before ++ last ∷ []
  pub quiet : AllByRecursion IsQuiet before
  pub cut : List ℕ
  pub is_cut : IsCutFrom cut (text_of last)
  pub out_is : out ≡ texts before ++ cut

-- all answers were written, and a front of `nomem` that lacks its last byte
pub record CutInNoMemory (given : List Answer) (out : List ℕ) : Type 0 where
  pub quiet : AllByRecursion IsQuiet given
  pub cut : List ℕ
  pub is_cut : IsCutFrom cut (text 0 reply.NoMemory)
  pub out_is : out ≡ texts given ++ cut

-- How a session ends: whether End came, how many bytes were taken, that the caller's calls are used
-- up, the answers, the items behind them, and what was written.
abbrev pub SessionEnds : How → Bool → ℕ → Type 0 → List Answer → List Request → List ℕ → Type 0
SessionEnds how.Bye ended taken used given rest out = EndsByBye given × (out ≡ texts given)
SessionEnds how.Eof ended taken used given rest out = (ended ≡ true) × (rest ≡ [])
    × AllByRecursion IsQuiet given × (out ≡ texts given)
SessionEnds how.Dead ended taken used given rest out = EndsBy given (reply.Refused refusal.Dead)
    × (out ≡ texts given)
SessionEnds how.ReadFault ended taken used given rest out = (rest ≡ [])
    × AllByRecursion IsQuiet given × (out ≡ texts given)
SessionEnds how.NoMemory ended taken used given rest out =
    (EndsBy given reply.NoMemory × (out ≡ texts given))
    ⊎ (AllByRecursion IsQuiet given × (out ≡ texts given ++ text 0 reply.NoMemory))
SessionEnds how.TooMuch ended taken used given rest out =
    ((2 ^ 62 ≤ taken) ⊎ ((0 < length rest) × used)) × AllByRecursion IsQuiet given
    × (out ≡ texts given)
SessionEnds how.WriteFault ended taken used given rest out = CutShort given out
    ⊎ CutInNoMemory given out

-- the bytes taken, whether End came, the caller's calls, that they are used up, the bytes written
-- and the end
pub record Served (bytes : List ℕ) (ended : Bool) (own : List Entry) (used : Type 0) (out : List ℕ)
    (how : How) : Type 0 where
  -- the items that were answered, and those behind them
  pub front : List Request
  pub rest : List Request
  pub split : items ended bytes ≡ front ++ rest
  -- their calls are the caller's, each once, in order
  pub calls_are : map (λ e. e.call) own ≡ calls front
  pub ends : SessionEnds how ended (length bytes) used (answers front (replies own)) rest out

-- before each In piece, all items of the In pieces before it were answered, each so that the
-- session goes on, and nothing else was written
abbrev pub PromptFrom : List Entry → List ℕ → List ℕ → List Piece → Type 0
PromptFrom own ins outs [] = Unit {0}
PromptFrom own ins outs (In bytes ∷ tape) =
    ((length (calls (items false ins)) ≤ length own)
    × (outs ≡ texts (answers (items false ins) (replies own)))
    × AllByRecursion IsQuiet (answers (items false ins) (replies own)))
    × PromptFrom own (ins ++ bytes) outs tape
PromptFrom own ins outs (Out bytes ∷ tape) = PromptFrom own ins (outs ++ bytes) tape

abbrev pub IsPrompt : List Entry → List Piece → Type 0
IsPrompt own tape = PromptFrom own [] [] tape

-- a read asks for at most 4,096 bytes
abbrev pub IsShort : Piece → Type 0
IsShort (In bytes) = length bytes ≤ 4096
IsShort (Out bytes) = Unit {0}
