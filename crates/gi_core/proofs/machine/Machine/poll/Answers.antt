use Rattle.gi_model.specs.declared.calls.Call.TheVariants as call
use Rattle.gi_model.proofs.Stepping.{poll_step}
use Rattle.gi_core.specs.View.{state_of}
use Rattle.gi_core.proofs.Moving.{moves_same}
use Rattle.gi_core.proofs.machine.Machine.poll.Goals as goal

pub returns : goal.returns
returns c = moves_same c.args.self.now call.Poll c.status.result (poll_step (state_of c.args.self.now) c.status.result c.requires c.status.ensures)
