use Rattle.std.proofs.Common.{sym, subst}
use Rattle.gi_model.specs.State.{State}
use Rattle.gi_model.specs.History.{MayCome, Step}
use Rattle.gi_model.specs.declared.replies.Reply.TheVariants as reply
use Rattle.gi_model.proofs.Stepping.{step_refused}
use Rattle.gi_core.specs.View.{state_of}
use Rattle.gi_core.proofs.Moving.{moves_whole}
use Rattle.gi_model.proofs.Refusing.{early_refuses}
use Rattle.gi_core.proofs.solver_core.Core.step.Goals as goal

pub invariant_of-self : goal.invariant_of-self
invariant_of-self c = moves_whole c.self.inside.machine c.accept.new.self c.args.call.now c.accept.result c.accept.ensures c.self.invariant

pub returns-in-Some : goal.returns-in-Some
returns-in-Some c =
    let P : State → Type 0 = λ s. MayCome s c.args.call.now → Step s c.args.call.now (reply.Refused c.in-Some.refusal) s in
    subst P c.self.view_is (λ w. step_refused (state_of c.self.inside.machine) c.args.call.now c.in-Some.refusal w (early_refuses (state_of c.self.inside.machine) c.args.call.now c.in-Some.refusal (sym c.in-Some.ensures))) (c.calls_may_come.ensures c.args.self.now c.args.call.now c.requires.fits c.requires.wait)

pub accept-requires-clause-comes : goal.accept-requires-clause-comes
accept-requires-clause-comes c = subst (λ (s : State). MayCome s c.args.call.now) (sym c.self.view_is) (c.calls_may_come.ensures c.args.self.now c.args.call.now c.requires.fits c.requires.wait)
