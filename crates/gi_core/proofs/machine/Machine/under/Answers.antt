use Rattle.std.proofs.Common.{length, refl}
use Rattle.std.proofs.lemmas.Bool.{ltb-true}
use Rattle.gi_lit.specs.Problem.{with_group}
use Rattle.gi_lit.proofs.Growing.{grows_group}
use Rattle.gi_model.specs.Effects.{after}
use Rattle.gi_model.specs.declared.calls.Call.TheVariants as call
use Rattle.gi_model.specs.declared.replies.Reply.TheVariants as reply
use Rattle.gi_model.proofs.Accepting.{accepted_facts}
use Rattle.gi_model.proofs.Keeping.{all_active}
use Rattle.gi_core.specs.View.{state_of}
use Rattle.gi_core.proofs.Moving.{moves_clauses, moves_dead}
use Rattle.gi_core.proofs.machine.Machine.under.Goals as goal

pub add_under-requires-clause-some : goal.add_under-requires-clause-some
add_under-requires-clause-some c = rw c.as_slice.ensures (ltb-true 0 (length c.args.guards.now) c.requires.comes)

pub add_under-requires-clause-guards : goal.add_under-requires-clause-guards
add_under-requires-clause-guards c = rw c.as_slice.ensures (all_active c.args.self.now.solver.problem c.args.guards.now (accepted_facts (state_of c.args.self.now) (call.Under c.args.guards.now c.args.c.now) refl c.requires.free).guard)

pub add_under-requires-clause-usable : goal.add_under-requires-clause-usable
add_under-requires-clause-usable c = rw c.as_slice-2.ensures (accepted_facts (state_of c.args.self.now) (call.Under c.args.guards.now c.args.c.now) refl c.requires.free).good_lits

pub returns-in-Ok : goal.returns-in-Ok
unfolding after
returns-in-Ok c =
    let m = c.args.self.now in
    moves_clauses c.more_clauses_keep_reasons.ensures m c.add_under.new.self c.edited.new.self c.forget.new.self (with_group c.args.guards.now c.args.c.now m.solver.problem) (call.Under c.args.guards.now c.args.c.now) (reply.Done) c.requires.comes c.requires.free (refl) refl (rw (c.as_slice.ensures, c.as_slice-2.ensures) at c.in-Ok.ensures) c.edited.ensures c.forget.ensures (grows_group c.args.guards.now c.args.c.now m.solver.problem)

pub returns-in-Err : goal.returns-in-Err
returns-in-Err c = moves_dead c.args.self.now c.die.new.self (call.Under c.args.guards.now c.args.c.now) c.die.result c.requires.comes c.requires.free refl c.die.ensures.value c.die.ensures.state c.die.ensures.blank
