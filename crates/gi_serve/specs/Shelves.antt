-- What is known of the two shelves.
use Rattle.std.specs.Prelude.{ℕ, List, Some, None}
use Rattle.gi_room.specs.Seen.{Seen}
use Rattle.gi_serve.specs.declared.drop_passes.DropPasses.{DropPasses}
use Rattle.gi_serve.specs.declared.keep_passes.KeepPasses.{KeepPasses}
use Rattle.gi_serve.specs.ShelfState.{ShelfState}

-- the passes that it keeps
abbrev pub kept_passes : KeepPasses → List Seen
kept_passes k = k.passes.items

-- how many it had no memory for
abbrev pub lost_passes : KeepPasses → ℕ
lost_passes k = k.lost

-- it tells all
abbrev pub keep_state : KeepPasses → ShelfState
keep_state k = record { shelved = Some k.passes.items; lost = k.lost }

-- it tells none, and means to lose them
abbrev pub drop_state : DropPasses → ShelfState
drop_state d = record { shelved = None; lost = 0 }
