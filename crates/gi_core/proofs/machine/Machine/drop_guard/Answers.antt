use Rattle.std.proofs.Common.{refl}
use Rattle.std.proofs.lemmas.Bool.{not-false}
use Rattle.gi_lit.proofs.Vars.{Contains-from_has}
use Rattle.gi_model.specs.declared.calls.Call.TheVariants as call
use Rattle.gi_model.proofs.Accepting.{accepted_facts}
use Rattle.gi_core.specs.View.{state_of}
use Rattle.gi_core.proofs.Moving.{moves_drop}
use Rattle.gi_core.proofs.machine.Machine.drop_guard.Goals as goal

pub remove_guard-requires : goal.remove_guard-requires
remove_guard-requires c = Contains-from_has c.args.self.now.solver.problem.active c.args.g (not-false _ (accepted_facts (state_of c.args.self.now) (call.DropGuard c.args.g) refl c.requires.free).guard)

pub returns : goal.returns
returns c = moves_drop c.args.self.now c.remove_guard.new.self c.edited.new.self c.forget.new.self c.args.g c.requires.free c.remove_guard.ensures c.edited.ensures c.forget.ensures
