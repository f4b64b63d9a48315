-- A caller whose answers are counted.
use Rattle.std.specs.Prelude.{◌≡◌, List, ◌++◌, length, drop}
use Rattle.gi_model.specs.History.{Entry}
use Rattle.gi_net.specs.Entries.{own_of}
use Rattle.gi_net.specs.Standing.{Standing}
use Rattle.gi_drill.specs.Counting.{tally_from, tally_of}
use Rattle.gi_drill.specs.declared.tally.Tally.{Tally}

-- what is counted of a caller's calls from one standing to another
abbrev pub tally_since : Standing → Standing → Tally
tally_since before after =
    tally_of (own_of before.number (drop (length before.history) after.history))

-- from one standing to another, with the calls that were made between
pub record Counts (old new : Standing) (before after : Tally) : Type 0 where
  pub entries : List Entry
  pub number : new.number ≡ old.number
  pub history : new.history ≡ old.history ++ entries
  pub tally : after ≡ tally_from before (own_of old.number entries)
