use Rattle.std.proofs.Common.{◌≡◌, OnOk, sym, subst}
use Rattle.gi_model.specs.State.{State}
use Rattle.gi_reference.proofs.Following.{after_refused, after_no_memory, after_accepted}
use Rattle.gi_reference.proofs.machine.Plain.enter.Goals as goal

pub returns-in-Refused : goal.returns-in-Refused
returns-in-Refused c = after_refused c.args.self.now c.args.call.now c.args.reply.now c.in-Refused.field-0 c.in-Refused.is

pub returns-in-NoMemory : goal.returns-in-NoMemory
returns-in-NoMemory c = after_no_memory c.args.self.now c.args.call.now c.args.reply.now c.die.new.self c.in-NoMemory.is c.die.ensures

pub returns-in_default : goal.returns-in_default
returns-in_default c =
    let P : State → Type 0 = λ t. OnOk c.accept.result (c.accept.new.self ≡ t) in
    subst P (sym (after_accepted c.args.self.now c.args.call.now c.args.reply.now c.in_default.not-Refused c.in_default.not-NoMemory)) c.accept.ensures
