-- What follows of a session that was hosted.
use Rattle.std.specs.Prelude.{◌*◌, ◌^◌, ◌≤◌, ◌⊎◌, length}
use Rattle.gi_outside.specs.Link.{ins}
use Rattle.gi_outside.specs.World.{World}
use Rattle.gi_net.specs.declared.how.How.TheVariants as how
use Rattle.gi_room.specs.Entries.{all_own_of}
use Rattle.gi_room.specs.Seen.{Seen}
use Rattle.gi_host.specs.Hosts.{Hosts}

-- where it ended because no call was left, its own entries are at least a quarter of the calls that
-- the pass had
abbrev pub UsesAQuarter : Type 0
UsesAQuarter = (old new : World) (before after : Seen) (h : Hosts old new before after how.TooMuch)
    → (2 ^ 62 ≤ length (ins h.serves.over.session.added))
    ⊎ (before.left ≤ 4 * length (all_own_of before.number h.serves.over.session.entries))
