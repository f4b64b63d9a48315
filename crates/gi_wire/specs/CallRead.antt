-- What `read_call` and `plus_at` answer.
use Rattle.std.specs.Prelude.{◌≡◌, ◌≤◌, ◌<◌, ℕ, List, ◌∷◌, ◌++◌, true, take, length, slice_index, Some, None}
use Rattle.gi_text.specs.Words.{words_of}
use Rattle.gi_model.specs.Fits.{fits}
use Rattle.gi_model.specs.Limits.{most_payload}
use Rattle.gi_wire.specs.declared.call.CallRead.{CallRead}
use Rattle.gi_wire.specs.declared.call.CallRead.TheVariants as read
use Rattle.gi_wire.specs.Grammar.{Makes, Loads, ask_of, but_last, ends_plus, has_list}

-- exactly the call or the load that the grammar has for these words, if any; every one of them may
-- be made. A list of guards or literals alone takes memory.
abbrev pub ReadsCall : CallRead → List (List ℕ) → Type 0
ReadsCall (read.Call call) words = (ask_of words ≡ Some (Makes call)) × (fits call ≡ true)
ReadsCall (read.Load kind len) words = (ask_of words ≡ Some (Loads kind len)) × (len ≤ most_payload)
ReadsCall read.Syntax words = ask_of words ≡ None
ReadsCall read.NoMemory words = has_list words ≡ true

-- the last word of a line is `+`, at this place, and the other words stand before it
pub record EndsAtPlus (line : List ℕ) (place : ℕ) : Type 0 where
  pub within : place < length line
  pub plus : slice_index line place ≡ 43
  pub ends : ends_plus (words_of line) ≡ true
  pub before : words_of (take place line) ≡ but_last (words_of line)
  -- with a space in its place, more may follow
  pub more : (behind : List ℕ)
      → words_of (take place line ++ 32 ∷ behind) ≡ words_of (take place line) ++ words_of behind
