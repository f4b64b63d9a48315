use Rattle.std.proofs.Common.{◌≡◌, None, sym, ◌∙◌}
use Rattle.gi_model.specs.Refusals.{refuses}
use Rattle.gi_reference.proofs.Deciding.{no, yes, not_so}
use Rattle.gi_reference.proofs.Allowing.{allows_refusal, allows_memory, allows_like}
use Rattle.gi_reference.proofs.machine.Plain.allows.Goals as goal

pub returns-then-not-may_come : goal.returns-then-not-may_come
returns-then-not-may_come c = no (λ a. not_so c.may_come.result c.may_come.ensures (sym c.if-not-may_come.true) a.may_come)

pub returns-else-wants_memory : goal.returns-else-wants_memory
returns-else-wants_memory c =
    let free : None ≡ refuses c.args.self.now c.args.call.now = sym c.in-None.is ∙ c.in_ok-refusal.ensures in
    allows_like c.args.self.now c.args.call.now c.args.reply.now (c.may_come.ensures.0 c.if-not-may_come.false) free c.answers.result (not_so c.wants_memory.result c.wants_memory.ensures (sym c.if-wants_memory.false)) c.answers.ensures
