use Rattle.std.proofs.Common.{refl}
use Rattle.gi_model.specs.Effects.{after}
use Rattle.gi_model.specs.declared.calls.Call.TheVariants as call
use Rattle.gi_model.specs.declared.replies.Reply.TheVariants as reply
use Rattle.gi_model.proofs.Stepping.{step_done}
use Rattle.gi_core.specs.View.{state_of}
use Rattle.gi_core.proofs.Moving.{moves_same}
use Rattle.gi_core.proofs.machine.Machine.bye.Goals as goal

pub returns : goal.returns
unfolding after
returns c = moves_same c.args.self.now call.Bye reply.Bye (step_done (state_of c.args.self.now) call.Bye reply.Bye (state_of c.args.self.now) refl c.requires refl refl)
