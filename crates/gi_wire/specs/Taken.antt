-- What comes of a line.
use Rattle.std.specs.Prelude.{◌≡◌, ◌<◌, ◌≤◌, ◌+◌, ℕ, List, ◌++◌, length, true, false, Option, Some, None}
use Rattle.gi_model.specs.Fits.{fits}
use Rattle.gi_model.specs.Limits.{most_payload}
use Rattle.gi_text.specs.Words.{words_of}
use Rattle.gi_wire.specs.declared.begun.Taken.{Taken}
use Rattle.gi_wire.specs.declared.begun.Taken.TheVariants as taken
use Rattle.gi_wire.specs.Grammar.{Ask, Makes, Loads, ask_of, has_list}
use Rattle.gi_wire.specs.Items.{Joined, goes_on_by, join}
use Rattle.gi_wire.specs.Limits.{most_joined}

-- a line is the last of its item, which asks for this
pub record IsLast (line : List ℕ) (joined : Joined) (ask : Option Ask) : Type 0 where
  pub few : joined.size + length line ≤ most_joined
  pub ends : goes_on_by joined.words (words_of line) ≡ false
  pub asks : ask_of (joined.words ++ words_of line) ≡ ask

-- a line goes on, and is joined
pub record IsJoined (line : List ℕ) (old new : Joined) : Type 0 where
  pub few : old.size + length line ≤ most_joined
  pub goes_on : goes_on_by old.words (words_of line) ≡ true
  pub joined : new ≡ join old line

-- what comes of a line that isn't too long, with those that it is joined to
abbrev pub Takes : Taken → List ℕ → Joined → Joined → Type 0
Takes taken.GoesOn line old new = IsJoined line old new
Takes taken.Long line old new = most_joined < old.size + length line
Takes (taken.Call call) line old new = IsLast line old (Some (Makes call)) × (fits call ≡ true)
Takes (taken.Load load) line old new = IsLast line old (Some (Loads load.kind load.len))
    × (load.len ≤ most_payload)
Takes taken.Syntax line old new = IsLast line old None
Takes taken.NoMemory line old new = has_list (old.words ++ words_of line) ≡ true
