use Rattle.gi_model.specs.declared.calls.Call.TheVariants as call
use Rattle.std.proofs.Common.{refl}
use Rattle.std.proofs.lemmas.Bool.{both_ways, not-false}
use Rattle.gi_model.proofs.Accepting.{accepted_facts}
use Rattle.gi_core.specs.View.{state_of}
use Rattle.gi_core.proofs.Moving.{moves_dead}
use Rattle.gi_core.proofs.Opening.{moves_model}
use Rattle.gi_core.proofs.machine.Machine.model.Goals as goal

pub unreachable-requires : goal.unreachable-requires
unreachable-requires c = both_ways _ c.in-None.ensures.none (not-false _ (accepted_facts (state_of c.args.self.now) call.Model refl c.requires.free).has_model)

pub returns-in-Ok : goal.returns-in-Ok
returns-in-Ok c = moves_model c.args.self.now c.in-Some.values.now c.in-Ok.lits c.requires.free c.in-Some.ensures.some c.in-Ok.ensures

pub returns-in-Err : goal.returns-in-Err
returns-in-Err c = moves_dead c.args.self.now c.die.new.self call.Model c.die.result refl c.requires.free refl c.die.ensures.value c.die.ensures.state c.die.ensures.blank
