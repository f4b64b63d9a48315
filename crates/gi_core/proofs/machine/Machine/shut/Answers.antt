use Rattle.std.proofs.Common.{refl}
use Rattle.gi_model.specs.Effects.{after}
use Rattle.gi_model.specs.declared.calls.Call.TheVariants as call
use Rattle.gi_model.specs.declared.replies.Reply.TheVariants as reply
use Rattle.gi_model.proofs.Stepping.{step_done}
use Rattle.gi_core.specs.View.{state_of}
use Rattle.gi_model.specs.declared.life.Life.TheVariants.{Shut}
use Rattle.gi_core.proofs.machine.Machine.shut.Goals as goal

pub returns : goal.returns
unfolding after
returns c = record { step = step_done (state_of c.args.self.now) call.Shut reply.Done (state_of (record c.args.self.now { life = Shut })) refl c.requires refl refl; backed = λ b. b }
