-- Laws of items, and of the texts of calls and answers.
use Rattle.std.specs.Prelude.{◌≡◌, ℕ, ◌+◌, ◌<◌, ◌≤◌, Bool, true, false, List, [], ◌∷◌, ◌++◌, length, Some}
use Rattle.gi_text.specs.Lines.{line_at}
use Rattle.gi_text.specs.Words.{words_of}
use Rattle.gi_model.specs.declared.calls.Call.{Call}
use Rattle.gi_model.specs.declared.replies.Reply.{Reply}
use Rattle.gi_wire.specs.declared.call.Kind.{Kind}
use Rattle.gi_wire.specs.declared.reader.RequestKind.TheVariants as asked
use Rattle.gi_wire.specs.declared.reader.Request.{Request}
use Rattle.gi_wire.specs.CallText.{IsWritten, call_text, line_behind}
use Rattle.gi_wire.specs.Grammar.{Loads, ask_of, but_last}
use Rattle.gi_wire.specs.Items.{at_start, goes_on_by, item, items, items_from, line_by, load_call}
use Rattle.gi_wire.specs.Limits.{most_line, most_u64}
use Rattle.gi_wire.specs.ReplyRead.{IsTold}
use Rattle.gi_wire.specs.Text.{text, words_text}

-- bytes begin with the line of a load of so many bytes, and these are behind its LF
pub record BeginsLoad (bytes : List ℕ) (kind : Kind) (len : ℕ) (behind : List ℕ) : Type 0 where
  pub line : List ℕ
  pub first : line_at bytes ≡ Some (line, behind)
  pub short : length line ≤ most_line
  pub asks : ask_of (words_of line) ≡ Some (Loads kind len)

-- items that are there stay, whatever follows
abbrev pub ItemsStay : Type 0
ItemsStay = (ended : Bool) (front back : List ℕ)
    → (more : List Request) × (items ended (front ++ back) ≡ items false front ++ more)

-- a load with its bytes is one item, and the next line begins right behind them
abbrev pub LoadsAreItems : Type 0
LoadsAreItems = (ended : Bool) (line : ℕ) (kind : Kind) (bytes loaded behind : List ℕ)
    → BeginsLoad bytes kind (length loaded) (loaded ++ behind)
    → items_from ended line (at_start line) bytes
    ≡ item line (asked.Call (load_call kind loaded))
    ∷ items_from ended (line + 1) (at_start (line + 1)) behind

-- a load whose bytes are not all there is no item, and is refused where the input ends
abbrev pub CutLoadsAreRefused : Type 0
CutLoadsAreRefused = (line : ℕ) (kind : Kind) (len : ℕ) (bytes loaded : List ℕ)
    → BeginsLoad bytes kind len loaded → length loaded < len
    → (items_from false line (at_start line) bytes ≡ [])
    × (items_from true line (at_start line) bytes ≡ item line asked.Syntax ∷ [])

-- two lines in a row, of which the first goes on and the second doesn't
pub record AreJoined (bytes one two behind : List ℕ) : Type 0 where
  pub rest : List ℕ
  pub first : line_at bytes ≡ Some (one, rest)
  pub second : line_at rest ≡ Some (two, behind)
  pub short : length one ≤ most_line
  pub short_too : length two ≤ most_line
  pub goes_on : goes_on_by [] (words_of one) ≡ true
  pub ends : goes_on_by (but_last (words_of one)) (words_of two) ≡ false

-- they are read as one line, whose words are those of both but for the `+`; its number is the first
-- one's
abbrev pub LinesAreJoined : Type 0
LinesAreJoined = (ended : Bool) (line : ℕ) (bytes one two behind : List ℕ)
    → AreJoined bytes one two behind
    → items_from ended line (at_start line) bytes
    ≡ line_by line (line + 1) (ask_of (but_last (words_of one) ++ words_of two))
    (λ k place. items_from ended k place behind)

-- what goes on and is cut by the end is refused under the first line's number
abbrev pub CutLinesAreRefused : Type 0
CutLinesAreRefused = (line : ℕ) (bytes one : List ℕ) → line_at bytes ≡ Some (one, [])
    → length one ≤ most_line → goes_on_by [] (words_of one) ≡ true
    → items_from true line (at_start line) bytes ≡ item line asked.Syntax ∷ []

-- the text of a call is read as that call, and what follows it from the next line on
abbrev pub CallsAreReadBack : Type 0
CallsAreReadBack = (ended : Bool) (line : ℕ) (c : Call) (more : List ℕ) → IsWritten c
    → items_from ended line (at_start line) (call_text c ++ more)
    ≡ item line (asked.Call c)
    ∷ items_from ended (line_behind line c) (at_start (line_behind line c)) more

-- where nothing follows, it is that call alone
abbrev pub CallsAreReadAlone : Type 0
CallsAreReadAlone = (ended : Bool) (c : Call) → IsWritten c
    → items ended (call_text c) ≡ item 1 (asked.Call c) ∷ []

-- no two calls have the same text
abbrev pub CallsDiffer : Type 0
CallsDiffer = (one two : Call) → IsWritten one → IsWritten two → call_text one ≡ call_text two
    → one ≡ two

-- the text of an answer to any line is one line: its last byte is an LF, and no other
abbrev pub AnswersAreLines : Type 0
AnswersAreLines = (line named : ℕ) (reply : Reply) (more : List ℕ) → line ≤ most_u64
    → IsTold named reply → line_at (text line reply ++ more) ≡ Some (words_text line reply, more)
