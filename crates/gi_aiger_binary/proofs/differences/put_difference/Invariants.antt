use Rattle.std.proofs.Common.{◌≡◌, ◌++◌}
use Rattle.gi_aiger_binary.specs.Differences.{groups_of}
use Rattle.gi_aiger_binary.proofs.differences.put_difference.Given as goal

abbrev pub invariant-groups : goal.invariant-groups
invariant-groups l = l.out ++ groups_of l.rest ≡ l.fn.out ++ groups_of l.fn.difference

abbrev pub decreases-groups : goal.decreases-groups
decreases-groups l = l.rest
