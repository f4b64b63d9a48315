use Rattle.gi_core.proofs.Keys.{dropped_joined}
use Rattle.gi_core.proofs.solver.Solver.remove_guard.Goals as goal

pub invariant_of-self : goal.invariant_of-self
invariant_of-self c = dropped_joined c.edits_keep_searches.ensures c.self.inside.search c.detach_naming.new.search c.self.inside.store c.remove_guard.new.self c.args.g (record { goes = c.self.invariant.goes; all = c.self.invariant.all }) c.detach_naming.ensures.goes c.detach_naming.ensures.attached c.remove_guard.ensures.after c.remove_guard.ensures.keeps
