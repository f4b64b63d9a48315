use Rattle.std.proofs.Common.{refl}
use Rattle.std.proofs.lemmas.Bool.{not-false}
use Rattle.gi_lit.proofs.Vars.{Contains-from_has}
use Rattle.gi_model.specs.Effects.{after}
use Rattle.gi_model.specs.declared.calls.Call.TheVariants as call
use Rattle.gi_model.specs.declared.replies.Reply.TheVariants as reply
use Rattle.gi_model.proofs.Accepting.{accepted_facts}
use Rattle.gi_model.proofs.Stepping.{step_done}
use Rattle.gi_core.specs.View.{state_of}
use Rattle.gi_core.proofs.Moving.{moves_same, moves_dead}
use Rattle.gi_core.proofs.Opening.{explained}
use Rattle.gi_core.proofs.machine.Machine.reasons.Goals as goal

pub unreachable-requires : goal.unreachable-requires
unreachable-requires c = c.in-NotImplied.ensures (Contains-from_has _ c.args.m (not-false _ (accepted_facts (state_of c.args.self.now) (call.Reasons c.args.m) refl c.requires.free).listed))

pub returns-in-Reasons : goal.returns-in-Reasons
unfolding after
returns-in-Reasons c =
    let m = c.args.self.now in
    moves_same m (call.Reasons c.args.m) (reply.Reasons c.in-Reasons.rs) (step_done (state_of m) (call.Reasons c.args.m) (reply.Reasons c.in-Reasons.rs) (state_of m) refl c.requires.free (explained m c.args.m c.in-Reasons.rs (c.in-Reasons.ensures.1 m.solver.problem c.requires.whole.backed.reasoned)) refl)

pub returns-in-NoMemory : goal.returns-in-NoMemory
returns-in-NoMemory c = moves_dead c.args.self.now c.die.new.self (call.Reasons c.args.m) c.die.result refl c.requires.free refl c.die.ensures.value c.die.ensures.state c.die.ensures.blank
