use Rattle.gi_model.specs.declared.calls.Call.TheVariants as call
use Rattle.gi_core.specs.View.{state_of}
use Rattle.gi_core.proofs.Moving.{moves_same, moves_dead, wait_step}
use Rattle.gi_core.proofs.machine.Machine.wait.Goals as goal

pub returns-in-Ok : goal.returns-in-Ok
returns-in-Ok c = moves_same c.args.self.now call.Wait c.in-Ok.reply (wait_step (state_of c.args.self.now) c.in-Ok.reply c.requires.comes c.requires.free c.in-Ok.ensures.ok)

pub returns-in-Err : goal.returns-in-Err
returns-in-Err c = moves_dead c.args.self.now c.die.new.self call.Wait c.die.result c.requires.comes c.requires.free c.in-Err.ensures.err c.die.ensures.value c.die.ensures.state c.die.ensures.blank
