use Rattle.gi_core.proofs.Opening.{moves_untest, some_scope}
use Rattle.gi_core.proofs.machine.Machine.untest.Goals as goal

pub untest-requires : goal.untest-requires
untest-requires c = some_scope c.args.self.now c.requires

pub returns : goal.returns
returns c = moves_untest c.args.self.now c.untest.new.self c.forget.new.self c.requires c.untest.ensures.scopes c.forget.ensures (λ b. record { reasoned = c.untest.ensures.reasons c.args.self.now.solver.problem b.reasoned; served = c.untest.ensures.kept c.args.self.now.solver.base b.served })
