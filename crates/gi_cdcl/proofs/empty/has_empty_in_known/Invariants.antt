use Rattle.std.proofs.Common.{◌<◌, length, take}
use Rattle.std.specs.List.{All}
use Rattle.gi_store.specs.StoreView.{known_of}
use Rattle.gi_cdcl.proofs.empty.has_empty_in_known.Given as goal

abbrev pub invariant-loop-i : goal.invariant-loop-i
invariant-loop-i l = All (λ c. 0 < length c) (take l.i (known_of l.store))
