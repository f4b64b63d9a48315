use Rattle.gi_model.specs.declared.calls.Call.TheVariants as call
use Rattle.gi_core.proofs.Moving.{moves_whole}
use Rattle.gi_core.proofs.solver_core.Core.work.Goals as goal

pub invariant_of-self : goal.invariant_of-self
invariant_of-self g c = moves_whole c.self.inside.machine c.work.new.self (call.Work c.work.result.mark) c.work.result.reply c.work.ensures.moves c.self.invariant
