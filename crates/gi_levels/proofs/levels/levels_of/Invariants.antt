use Rattle.gi_levels.proofs.Visiting.{Roots}
use Rattle.gi_levels.proofs.levels.levels_of.Given as goal

abbrev pub invariant-roots : goal.invariant-roots
invariant-roots l = Roots l.nodes l.root l.s.seen.items l.s.level.items l.s.stack.items l.s.fresh
