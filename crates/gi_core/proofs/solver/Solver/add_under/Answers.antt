use Rattle.std.proofs.Common.{sym, subst}
use Rattle.std.specs.List.{All, Contains}
use Rattle.gi_core.specs.Content.{Content}
use Rattle.gi_core.proofs.solver.Solver.add_under.Goals as goal

pub put_under-requires-clause-guards : goal.put_under-requires-clause-guards
put_under-requires-clause-guards c = subst (λ (k : Content). All (Contains k.problem.active) c.args.guards.now) (sym c.self.view_is) c.requires.guards
