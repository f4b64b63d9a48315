use Rattle.std.proofs.Common.{◌≡◌, ◌+◌, length, take}
use Rattle.std.specs.List.{sum_by}
use Rattle.gi_lit.specs.Problem.{as_given}
use Rattle.gi_reference.proofs.store.left_by_groups.Given as goal

abbrev pub invariant-loop-group : goal.invariant-loop-group
invariant-loop-group l = l.left + sum_by as_given (take l.group-index l.groups) ≡ l.room
