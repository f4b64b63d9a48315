-- The items of an input: its lines, numbered from 1, each a call or to be refused. A line that
-- begins a list and ends with `+` goes on: the next one is joined to it, and they are one item. The
-- bytes of a load follow its line and are no lines.
use Rattle.std.specs.Prelude.{ℕ, ◌+◌, ◌-◌, Bool, ◌&&◌, ◌||◌, nat_lt, List, [], ◌∷◌, ◌++◌, length, ◌==◌, if◌then◌else◌, Option, Some, None}
use Rattle.gi_model.specs.declared.calls.Call.{Call}
use Rattle.gi_model.specs.declared.calls.Call.TheVariants.{LoadCnf}
use Rattle.gi_text.specs.Words.{words_of}
use Rattle.gi_wire.specs.declared.call.Kind.{Kind}
use Rattle.gi_wire.specs.declared.call.Kind.TheVariants.{Cnf}
use Rattle.gi_wire.specs.declared.reader.RequestKind.{RequestKind}
use Rattle.gi_wire.specs.declared.reader.RequestKind.TheVariants as asked
use Rattle.gi_wire.specs.declared.reader.Request.{Request}
use Rattle.gi_wire.specs.Grammar.{Ask, Makes, Loads, ask_of, but_last, ends_plus, has_list}
use Rattle.gi_wire.specs.Limits.{most_joined, most_line}

-- the lines of an item before the one at hand, if there are any
pub record Joined : Type 0 where
  -- the number of the item's first line
  pub first : ℕ
  -- their words, without each line's `+`
  pub words : List (List ℕ)
  -- how many bytes they have, their LFs not counted
  pub size : ℕ

-- the line of this number is the first of its item
abbrev pub alone : ℕ → Joined
alone line = record { first = line; words = []; size = 0 }

-- where an input stands: in a line that was begun, or in a load of which these bytes have come and
-- so many are missing
pub data Place : Type 0 where
  InLine : (joined : Joined) (begun : List ℕ) → Place
  InLoad : (kind : Kind) (got : List ℕ) (missing : ℕ) → Place

-- at the beginning of an item
abbrev pub at_start : ℕ → Place
at_start line = InLine (alone line) []

abbrev pub item : ℕ → RequestKind → Request
item line what = record { line = line; asked = what }

-- the call of a load with these bytes
abbrev pub load_call : Kind → List ℕ → Call
load_call Cnf bytes = LoadCnf bytes

-- an item that begins at a first line, and what comes behind its last
abbrev pub then_after : ℕ → ℕ → RequestKind → (ℕ → Place → List Request) → List Request
then_after first line what next = item first what ∷ next (line + 1) (at_start (line + 1))

-- an item of one line, and what comes from the next line on
abbrev pub then_next : ℕ → RequestKind → (ℕ → Place → List Request) → List Request
then_next line what next = then_after line line what next

-- a load is whole once no byte is missing
unfoldable pub at_load : ℕ → Kind → List ℕ → ℕ → (ℕ → Place → List Request) → List Request
at_load line kind got missing next = if missing == 0
    then then_next line (asked.Call (load_call kind got)) next
    else next line (InLoad kind got missing)

-- a line, with those that it is joined to, that asks for this is an item, or begins a load
abbrev pub line_by : ℕ → ℕ → Option Ask → (ℕ → Place → List Request) → List Request
line_by first line None next = then_after first line asked.Syntax next
line_by first line (Some (Makes call)) next = then_after first line (asked.Call call) next
line_by first line (Some (Loads kind len)) next = at_load line kind [] len next

-- a line with these words goes on: its last word is `+`, and the item's first word is the name of a
-- call that has a list
abbrev pub goes_on_by : List (List ℕ) → List (List ℕ) → Bool
goes_on_by before words = has_list (before ++ words) && ends_plus words

-- with a line more, which goes on
abbrev pub join : Joined → List ℕ → Joined
join joined bytes = record {
  first = joined.first;
  words = joined.words ++ but_last (words_of bytes);
  size = joined.size + length bytes;
}

-- a line has too many bytes, or it and those that it is joined to have too many together
abbrev pub is_long : Joined → List ℕ → Bool
is_long joined bytes = nat_lt most_line (length bytes)
    || nat_lt most_joined (joined.size + length bytes)

-- a line that isn't too long, by whether it goes on
abbrev pub line_at_by : Bool → ℕ → Joined → List ℕ → (ℕ → Place → List Request) → List Request
line_at_by goes_on line joined bytes next = if goes_on
    then next (line + 1) (InLine (join joined bytes) [])
    else line_by joined.first line (ask_of (joined.words ++ words_of bytes)) next

-- a line that is too long is refused, whatever it has
unfoldable pub at_line : ℕ → Joined → List ℕ → (ℕ → Place → List Request) → List Request
at_line line joined bytes next = if is_long joined bytes
    then then_after joined.first line asked.Long next
    else line_at_by (goes_on_by joined.words (words_of bytes)) line joined bytes next

-- lines that the end cuts behind a `+` are refused
abbrev pub cut_lines : List (List ℕ) → ℕ → List Request
cut_lines [] first = []
cut_lines (word ∷ words) first = item first asked.Syntax ∷ []

-- so is a load that the end cuts
abbrev pub cut : ℕ → Place → List Request
cut line (InLine joined begun) = cut_lines joined.words joined.first
cut line (InLoad kind got missing) = item line asked.Syntax ∷ []

-- what the input ends with and has no LF is a line, unless it is nothing
abbrev pub at_end : ℕ → Place → List Request
at_end line (InLine joined (b ∷ bs)) = at_line line joined (b ∷ bs) cut
at_end line place = cut line place

-- the items from a line and a place on; the input ends behind the bytes, or goes on
unfoldable pub items_from : Bool → ℕ → Place → List ℕ → List Request
items_from ended line place [] = if ended then at_end line place else []
items_from ended line (InLine joined begun) (b ∷ bs) = if b == 10
    then at_line line joined begun (λ k place. items_from ended k place bs)
    else items_from ended line (InLine joined (begun ++ b ∷ [])) bs
items_from ended line (InLoad kind got missing) (b ∷ bs) =
    at_load line kind (got ++ b ∷ []) (missing - 1) (λ k place. items_from ended k place bs)

abbrev pub items : Bool → List ℕ → List Request
items ended bytes = items_from ended 1 (at_start 1) bytes
