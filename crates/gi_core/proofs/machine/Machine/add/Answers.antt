use Rattle.std.proofs.Common.{refl}
use Rattle.gi_lit.specs.Problem.{with_clause}
use Rattle.gi_lit.proofs.Growing.{grows_clause}
use Rattle.gi_model.specs.Effects.{after}
use Rattle.gi_model.specs.declared.calls.Call.TheVariants as call
use Rattle.gi_model.specs.declared.replies.Reply.TheVariants as reply
use Rattle.gi_model.proofs.Accepting.{accepted_facts}
use Rattle.gi_core.specs.View.{state_of}
use Rattle.gi_core.proofs.Moving.{moves_clauses, moves_dead}
use Rattle.gi_core.proofs.machine.Machine.add.Goals as goal

pub add-requires : goal.add-requires
add-requires c = rw c.as_slice.ensures (accepted_facts (state_of c.args.self.now) (call.Add c.args.c.now) refl c.requires).good_lits

pub returns-in-Ok : goal.returns-in-Ok
unfolding after
returns-in-Ok c =
    let m = c.args.self.now in
    moves_clauses c.more_clauses_keep_reasons.ensures m c.add.new.self c.edited.new.self c.forget.new.self (with_clause c.args.c.now m.solver.problem) (call.Add c.args.c.now) (reply.Done) refl c.requires (refl) refl (rw c.as_slice.ensures at c.in-Ok.ensures) c.edited.ensures c.forget.ensures (grows_clause c.args.c.now m.solver.problem)

pub returns-in-Err : goal.returns-in-Err
returns-in-Err c = moves_dead c.args.self.now c.die.new.self (call.Add c.args.c.now) c.die.result refl c.requires refl c.die.ensures.value c.die.ensures.state c.die.ensures.blank
