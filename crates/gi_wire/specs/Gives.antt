-- What a reader of items answers.
use Rattle.std.specs.Prelude.{◌≡◌, ℕ, ◌<◌, ◌≤◌, Bool, true, false, List, [], ◌∷◌, length, None}
use Rattle.gi_model.specs.Fits.{fits}
use Rattle.gi_model.specs.declared.calls.Call.TheVariants as call
use Rattle.gi_wire.specs.declared.reader.RequestKind.{RequestKind}
use Rattle.gi_wire.specs.declared.reader.RequestKind.TheVariants as asked
use Rattle.gi_wire.specs.declared.reader.NextRequest.{NextRequest}
use Rattle.gi_wire.specs.declared.reader.NextRequest.TheVariants as given
use Rattle.gi_wire.specs.declared.reader.Request.{Request}
use Rattle.gi_wire.specs.Source.{Source, ahead, Comes, last_line, most_items}

-- the same is ahead
pub record SameAhead (old new : Source) : Type 0 where
  pub each : (ended : Bool) (more : List ℕ) → Comes old ended more
      → ahead new ended more ≡ ahead old ended more

-- a call that an item asks for may be made
abbrev pub MayBeAsked : RequestKind → Type 0
MayBeAsked (asked.Call call) = fits call ≡ true
MayBeAsked asked.Syntax = Unit {0}
MayBeAsked asked.Long = Unit {0}

-- reading such an item takes memory: a list of guards or literals, also one that is outside the
-- grammar, the bytes of a load, or the text of lines that are joined, also of too many
abbrev pub takes_memory : RequestKind → Bool
takes_memory (asked.Call (call.Add clause)) = true
takes_memory (asked.Call (call.Under guards clause)) = true
takes_memory (asked.Call (call.Assume literals)) = true
takes_memory (asked.Call (call.LoadCnf bytes)) = true
takes_memory (asked.Call other) = false
takes_memory asked.Syntax = true
takes_memory asked.Long = true

-- reading the first of the items, if there are any, takes memory
abbrev pub TakesMemory : List Request → Type 0
TakesMemory [] = Unit {0}
TakesMemory (i ∷ is) = takes_memory i.asked ≡ true

-- whatever comes, reading the next item takes memory
pub record AsksMemory (s : Source) : Type 0 where
  pub each : (ended : Bool) (more : List ℕ) → Comes s ended more → TakesMemory (ahead s ended more)

-- the first item is given
pub record GivesItem (item : Request) (old new : Source) : Type 0 where
  pub ahead_is : (ended : Bool) (more : List ℕ) → Comes old ended more
      → ahead old ended more ≡ item ∷ ahead new ended more
  pub may_be : MayBeAsked item.asked
  pub ended : new.lines.ended ≡ old.lines.ended
  pub fewer : most_items new < most_items old
  pub count : last_line new ≤ last_line old

-- no item is whole, and more may come
pub record Waits (old new : Source) : Type 0 where
  pub none : ahead old false [] ≡ []
  pub not_ended : old.lines.ended ≡ false
  pub same : SameAhead old new
  pub ended : new.lines.ended ≡ false
  pub count : last_line new ≤ last_line old

abbrev pub GivesNext : NextRequest → Source → Source → Type 0
GivesNext (given.Request item) old new = GivesItem item old new
GivesNext given.More old new = Waits old new
GivesNext given.Done old new = (old.lines.ended ≡ true) × (ahead old true [] ≡ [])
    × SameAhead old new
GivesNext given.NoMemory old new = (new.lines.ended ≡ old.lines.ended) × AsksMemory old

-- a load under way is an item that is still to be given
abbrev pub GivesLoad : NextRequest → Source → Source → Type 0
GivesLoad given.Done old new = ⊥
GivesLoad answer old new = GivesNext answer old new

-- the first line was taken, and goes on
pub record GoesOn (old new : Source) : Type 0 where
  pub same : SameAhead old new
  pub ended : new.lines.ended ≡ old.lines.ended
  pub load : new.load ≡ None
  pub fewer : most_items new ≤ most_items old
  pub count : last_line new ≤ last_line old
  pub less : length new.lines.left < length old.lines.left
