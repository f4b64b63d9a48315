use Rattle.std.proofs.Common.{refl, ap}
use Rattle.gi_lit.specs.Problem.{with_guard}
use Rattle.gi_lit.proofs.Growing.{grows_guard}
use Rattle.gi_model.specs.Effects.{after}
use Rattle.gi_model.specs.declared.calls.Call.TheVariants as call
use Rattle.gi_model.specs.declared.replies.Reply.TheVariants as reply
use Rattle.gi_model.proofs.Accepting.{accepted_facts}
use Rattle.gi_core.specs.View.{state_of}
use Rattle.gi_core.proofs.Moving.{moves_edit, moves_dead, guard_left}
use Rattle.gi_core.proofs.machine.Machine.new_guard.Goals as goal

pub new_guard-requires : goal.new_guard-requires
new_guard-requires c = guard_left c.args.self.now.solver.problem (accepted_facts (state_of c.args.self.now) call.NewGuard refl c.requires.free).within

pub returns-in-Ok : goal.returns-in-Ok
unfolding after
returns-in-Ok c =
    let m = c.args.self.now in
    moves_edit c.more_clauses_keep_reasons.ensures m c.new_guard.new.self c.forget.new.self (with_guard m.solver.problem) call.NewGuard (reply.Guard c.in-Ok.g) refl c.requires.free (ap reply.Guard c.in-Ok.ensures.guard) refl (c.in-Ok.ensures.made) c.forget.ensures (grows_guard m.solver.problem m.solver.problem.freed refl c.requires.whole.kept.clauses)

pub returns-in-Err : goal.returns-in-Err
returns-in-Err c = moves_dead c.args.self.now c.die.new.self call.NewGuard c.die.result refl c.requires.free refl c.die.ensures.value c.die.ensures.state c.die.ensures.blank
