-- What the fields of a reader and of joined lines keep.
use Rattle.std.specs.Prelude.{◌≡◌, ◌<◌, ◌≤◌, ℕ, true, false, List, ◌++◌, length, Option, Some}
use Rattle.gi_text.specs.Lines.{Kept}
use Rattle.gi_text.specs.Words.{words_of}
use Rattle.gi_model.specs.Limits.{most_payload}
use Rattle.gi_wire.specs.declared.call.Load.{Load}
use Rattle.gi_wire.specs.Grammar.{has_list}
use Rattle.gi_wire.specs.Limits.{most_joined, most_line}

pub record HoldsLong (lines : Kept) : Type 0 where
  pub most : lines.most ≡ most_line
  -- of a line that is too long enough is kept to tell it
  pub long : lines.long ≡ true → most_line < length lines.left

-- while a load is under way no line is, and its bytes are not too many
pub record HoldsLoad (lines : Kept) (load : Option Load) : Type 0 where
  pub not_long : (l : Load) → load ≡ Some l → lines.long ≡ false
  pub fits : (l : Load) → load ≡ Some l → l.len ≤ most_payload

-- the text of joined lines, if there are any, begins a list and ends between words
pub record HoldsText (text : List ℕ) (size : ℕ) : Type 0 where
  pub list : 0 < length text → has_list (words_of text) ≡ true
  pub words : (more : List ℕ) → words_of (text ++ more) ≡ words_of text ++ words_of more
  pub few : size ≤ most_joined
