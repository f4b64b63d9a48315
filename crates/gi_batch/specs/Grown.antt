-- What calls do to a caller.
use Rattle.std.specs.Prelude.{◌≡◌, ◌+◌, List, ◌++◌, length}
use Rattle.gi_model.specs.History.{Entry}
use Rattle.gi_net.specs.Entries.{all_own_of, own_of}
use Rattle.gi_net.specs.Standing.{Standing}

-- the history has grown by entries, of which these are the caller's calls; each own entry, work
-- too, has taken a call
pub record Grown (old new : Standing) (own : List Entry) : Type 0 where
  pub entries : List Entry
  pub number : new.number ≡ old.number
  pub history : new.history ≡ old.history ++ entries
  pub left : old.left ≡ new.left + length (all_own_of old.number entries)
  pub own_is : own_of old.number entries ≡ own
