use Rattle.std.proofs.Common.{refl, ap}
use Rattle.gi_model.specs.Effects.{after}
use Rattle.gi_model.specs.declared.calls.Call.TheVariants as call
use Rattle.gi_model.specs.declared.replies.Reply.TheVariants as reply
use Rattle.gi_model.proofs.Stepping.{step_done}
use Rattle.gi_core.specs.View.{state_of}
use Rattle.gi_core.proofs.Moving.{moves_same}
use Rattle.gi_core.proofs.machine.Machine.known.Goals as goal

pub returns : goal.returns
unfolding after
returns c = moves_same c.args.self.now call.Known (reply.Known c.known.result) (step_done (state_of c.args.self.now) call.Known (reply.Known c.known.result) (state_of c.args.self.now) refl c.requires (ap reply.Known c.known.ensures) refl)
