use Rattle.std.proofs.Common.{◌∙◌, refl, ap}
use Rattle.std.proofs.lemmas.Bool.{ltb-false}
use Rattle.gi_lit.specs.Literals.{max_var}
use Rattle.gi_lit.specs.Problem.{grown}
use Rattle.gi_lit.proofs.Growing.{grows_grown}
use Rattle.gi_model.specs.Effects.{after}
use Rattle.gi_model.specs.declared.calls.Call.TheVariants as call
use Rattle.gi_model.specs.declared.replies.Reply.TheVariants as reply
use Rattle.gi_model.proofs.Accepting.{accepted_facts}
use Rattle.gi_core.specs.Content.{Content}
use Rattle.gi_core.specs.View.{state_of}
use Rattle.gi_core.proofs.Moving.{moves_edit, moves_dead}
use Rattle.gi_core.proofs.machine.Machine.vars.Goals as goal

pub grow-requires : goal.grow-requires
grow-requires c = ltb-false max_var c.args.n (accepted_facts (state_of c.args.self.now) (call.Vars c.args.n) refl c.requires).within

pub returns-in-Ok : goal.returns-in-Ok
unfolding after
returns-in-Ok c =
    let m = c.args.self.now in
    moves_edit c.more_clauses_keep_reasons.ensures m c.grow.new.self c.forget.new.self (grown c.args.n m.solver.problem) (call.Vars c.args.n) (reply.Vars c.vars.result) refl c.requires (ap reply.Vars (c.vars.ensures ∙ ap (λ (k : Content). k.problem.vars) c.in-Ok.ensures)) refl (c.in-Ok.ensures) c.forget.ensures (grows_grown c.args.n m.solver.problem)

pub returns-in-Err : goal.returns-in-Err
returns-in-Err c = moves_dead c.args.self.now c.die.new.self (call.Vars c.args.n) c.die.result refl c.requires refl c.die.ensures.value c.die.ensures.state c.die.ensures.blank
