use Rattle.std.proofs.Common.{◌/◌, ◌≤◌, take}
use Rattle.std.specs.List.{All}
use Rattle.gi_store.proofs.store.Store.is_within.Given as goal

abbrev pub invariant-loop-l : goal.invariant-loop-l
invariant-loop-l l = All (λ x. (1 ≤ x / 2) × (x / 2 ≤ l.self.vars)) (take l.l-index l.c)
