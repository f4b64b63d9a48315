use Rattle.gi_core.proofs.Keys.{trimmed_joined}
use Rattle.gi_core.proofs.solver.Solver.forget_oldest.Goals as goal

pub invariant_of-self : goal.invariant_of-self
invariant_of-self c = trimmed_joined c.edits_keep_searches.ensures c.self.inside.search c.detach_oldest.new.search c.self.inside.store c.trim.new.self (record { goes = c.self.invariant.goes; all = c.self.invariant.all }) c.detach_oldest.ensures.goes c.detach_oldest.ensures.attached c.trim.ensures.after c.trim.ensures.keeps
