use Rattle.std.proofs.Common.{length, refl, ap, arith}
use Rattle.std.proofs.lemmas.Bool.{or_parts, eqb-false, ltb-false}
use Rattle.gi_model.specs.Effects.{after}
use Rattle.gi_model.specs.declared.calls.Call.TheVariants as call
use Rattle.gi_model.specs.declared.replies.Reply.TheVariants as reply
use Rattle.gi_model.proofs.Accepting.{accepted_facts}
use Rattle.gi_model.proofs.Stepping.{step_done}
use Rattle.gi_core.specs.View.{state_of}
use Rattle.gi_core.proofs.Moving.{moves_same, moves_dead}
use Rattle.gi_core.proofs.machine.Machine.clause.Goals as goal

pub known_clause-requires-clause-low : goal.known_clause-requires-clause-low
known_clause-requires-clause-low c =
    let b = or_parts _ _ (accepted_facts (state_of c.args.self.now) (call.KnownClause c.args.i) refl c.requires).has_clause in
    let n = eqb-false c.args.i 0 b.0 in omega arith

pub known_clause-requires-clause-high : goal.known_clause-requires-clause-high
known_clause-requires-clause-high c =
    let b = or_parts _ _ (accepted_facts (state_of c.args.self.now) (call.KnownClause c.args.i) refl c.requires).has_clause in
    ltb-false (length c.args.self.now.solver.known) c.args.i b.1

pub returns-in-Ok : goal.returns-in-Ok
unfolding after
returns-in-Ok c = moves_same c.args.self.now (call.KnownClause c.args.i) (reply.Clause c.in-Ok.clause) (step_done (state_of c.args.self.now) (call.KnownClause c.args.i) (reply.Clause c.in-Ok.clause) (state_of c.args.self.now) refl c.requires (ap reply.Clause c.in-Ok.ensures) refl)

pub returns-in-Err : goal.returns-in-Err
returns-in-Err c = moves_dead c.args.self.now c.die.new.self (call.KnownClause c.args.i) c.die.result refl c.requires refl c.die.ensures.value c.die.ensures.state c.die.ensures.blank
