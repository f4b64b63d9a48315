use Rattle.std.proofs.Common.{◌≡◌, subst}
use Rattle.gi_model.specs.State.{live_run}
use Rattle.gi_model.specs.Refusals.{refuses}
use Rattle.gi_model.specs.History.{Replied}
use Rattle.gi_model.specs.declared.calls.Call.TheVariants as call
use Rattle.gi_model.specs.declared.replies.Reply.{Reply}
use Rattle.gi_reference.proofs.Following.{within_budget, learns_some}
use Rattle.gi_reference.proofs.machine.Plain.follow_work.Goals as goal

pub learn-requires-clause-within : goal.learn-requires-clause-within
unfolding refuses
learn-requires-clause-within c = λ r e.
    let P : Reply → Type 0 = λ a. Replied c.args.self.now (call.Work c.args.mark) a (refuses c.args.self.now (call.Work c.args.mark)) in
    within_budget c.args.self.now c.args.mark c.in-Worked.news c.in-Worked.now (live_run c.args.self.now) r (subst P c.in-Worked.is c.requires.replied) e

pub learn-requires-clause-learns : goal.learn-requires-clause-learns
unfolding refuses
learn-requires-clause-learns c = λ r e n.
    let P : Reply → Type 0 = λ a. Replied c.args.self.now (call.Work c.args.mark) a (refuses c.args.self.now (call.Work c.args.mark)) in
    learns_some c.args.self.now c.args.mark c.in-Worked.news c.in-Worked.now (live_run c.args.self.now) r (subst P c.in-Worked.is c.requires.replied) e n
