use Rattle.std.proofs.Common.{◌+◌, refl}
use Rattle.gi_model.specs.declared.calls.Call.TheVariants as call
use Rattle.gi_model.specs.declared.solve.Solve.TheVariants.{Running}
use Rattle.gi_core.proofs.Moving.{moves_dead}
use Rattle.gi_core.proofs.Opening.{moves_start}
use Rattle.gi_core.proofs.machine.Machine.start.Goals as goal

pub returns-in-Ok : goal.returns-in-Ok
returns-in-Ok c =
    let m = c.args.self.now in
    moves_start m (record m { solver = c.trim.new.self; pending = c.new.result; serial = m.serial + 1; solve = Running c.new-run.result }) c.new-run.result c.args.budget c.in-Ok.assumed c.trim.new.self c.requires.comes c.requires.free c.in-Ok.ensures c.trim.ensures c.new-run.ensures (rw c.new.ensures refl)

pub returns-in-Err : goal.returns-in-Err
returns-in-Err c = moves_dead c.args.self.now c.die.new.self (call.Solve c.args.budget) c.die.result c.requires.comes c.requires.free refl c.die.ensures.value c.die.ensures.state c.die.ensures.blank
