-- What a reader of items has before it.
use Rattle.std.specs.Prelude.{◌≡◌, ℕ, ◌+◌, Bool, true, List, [], ◌∷◌, ◌++◌, length, Option, Some, None}
use Rattle.gi_text.specs.Lines.{Kept}
use Rattle.gi_wire.specs.declared.call.Load.{Load}
use Rattle.gi_wire.specs.declared.reader.Request.{Request}
use Rattle.gi_wire.specs.Items.{Joined, Place, InLine, at_load, items_from}

pub record Source : Type 0 where
  -- the bytes that were fed and not yet given, and whether the input has ended
  pub lines : Kept
  -- the number of the next line
  pub line : ℕ
  -- the lines that it is joined to
  pub joined : Joined
  -- the load whose line was taken, and whose bytes were not
  pub load : Option Load

-- what comes behind the line of a load, or from a line on
abbrev pub goes_on : Option Load → Joined → ℕ → (ℕ → Place → List Request) → List Request
goes_on None joined line next = next line (InLine joined [])
goes_on (Some load) joined line next = at_load line load.kind [] load.len next

-- the items that come, where so many more bytes come and the input then ends or goes on
unfoldable pub ahead : Source → Bool → List ℕ → List Request
ahead s ended more = goes_on s.load s.joined s.line
    (λ line place. items_from ended line place (s.lines.left ++ more))

-- what may still come: nothing once the input has ended
abbrev pub Comes : Source → Bool → List ℕ → Type 0
Comes s ended more = s.lines.ended ≡ true → (ended ≡ true) × (more ≡ [])

abbrev pub under_way : Option Load → ℕ
under_way None = 0
under_way (Some load) = 1

abbrev pub is_joined : List (List ℕ) → ℕ
is_joined [] = 0
is_joined (word ∷ words) = 1

-- no more items are there: each takes a byte, and a load or lines under way none
abbrev pub most_items : Source → ℕ
most_items s = length s.lines.left + under_way s.load + is_joined s.joined.words

-- no line that is there has a greater number
abbrev pub last_line : Source → ℕ
last_line s = s.line + (length s.lines.left + under_way s.load)
