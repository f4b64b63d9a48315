use Rattle.std.proofs.Common.{◌+◌, ◌*◌, length}
use Rattle.gi_levels.proofs.Visiting.{Visiting}
use Rattle.gi_levels.proofs.levels.visit.Given as goal

abbrev pub invariant-steps : goal.invariant-steps
invariant-steps l = Visiting l.nodes l.root l.fn.s.level.items l.s.seen.items l.s.level.items l.s.stack.items l.s.fresh

abbrev pub decreases-steps : goal.decreases-steps
decreases-steps l = 2 * l.s.fresh + length l.s.stack.items
