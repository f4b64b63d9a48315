use Rattle.std.proofs.Common.{arith}
use Rattle.gi_levels.proofs.Prefixes.{none_has, some_nodes}
use Rattle.gi_levels.proofs.levels.first_cycle.Goals as goal

pub halves-init : goal.halves-init
halves-init c =
    let h = rw c.if-branch.false at c.in_ok-is_acyclic.ensures in
    record { ordered = some_nodes c.args.nodes.now h; within = omega arith; good = none_has c.args.nodes.now; bad = h }
