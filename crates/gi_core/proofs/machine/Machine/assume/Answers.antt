use Rattle.std.proofs.Common.{refl}
use Rattle.gi_model.specs.declared.calls.Call.TheVariants as call
use Rattle.gi_core.proofs.Moving.{moves_dead}
use Rattle.gi_core.proofs.Opening.{moves_assume}
use Rattle.gi_core.proofs.machine.Machine.assume.Goals as goal

pub returns-in-Ok : goal.returns-in-Ok
returns-in-Ok c = moves_assume c.more_clauses_keep_reasons.ensures c.args.self.now c.take_on.new.solver c.forget.new.self c.args.lits.now c.take_on.new.pending c.requires (rw c.as_slice.ensures at c.in-Ok.ensures.pending) (rw c.as_slice.ensures at c.in-Ok.ensures.solver) c.forget.ensures

pub returns-in-Err : goal.returns-in-Err
returns-in-Err c = moves_dead c.args.self.now c.die.new.self (call.Assume c.args.lits.now) c.die.result refl c.requires refl c.die.ensures.value c.die.ensures.state c.die.ensures.blank
