use Rattle.std.proofs.Common.{◌≡◌, Bool, false, refl, None, subst}
use Rattle.gi_model.specs.Refusals.{refuses, is_work}
use Rattle.gi_model.specs.declared.calls.Call.{Call}
use Rattle.gi_model.specs.declared.calls.Call.TheVariants as call
use Rattle.gi_model.proofs.Accepting.{accepted_facts}
use Rattle.gi_model.proofs.Stepping.{serial_room}
use Rattle.gi_reference.proofs.Following.{vars_room}
use Rattle.gi_reference.proofs.machine.Plain.accept.Goals as goal

pub grow-requires : goal.grow-requires
grow-requires c =
    let P : Call → Type 0 = λ k. is_work k ≡ false → refuses c.args.self.now k ≡ None in
    vars_room c.args.self.now c.in-Vars.n (subst P c.in-Vars.is c.requires.free refl)

pub make_guard-requires : goal.make_guard-requires
make_guard-requires c =
    let P : Call → Type 0 = λ k. is_work k ≡ false → refuses c.args.self.now k ≡ None in
    (accepted_facts c.args.self.now call.NewGuard refl (subst P c.in-NewGuard.is c.requires.free refl)).within

pub load-requires : goal.load-requires
load-requires c =
    let P : Call → Type 0 = λ k. is_work k ≡ false → refuses c.args.self.now k ≡ None in
    (accepted_facts c.args.self.now (call.LoadCnf c.in-LoadCnf.bytes) refl (subst P c.in-LoadCnf.is c.requires.free refl)).within

pub start-requires : goal.start-requires
start-requires c =
    let P : Call → Type 0 = λ k. is_work k ≡ false → refuses c.args.self.now k ≡ None in
    serial_room c.args.self.now c.in-Solve.budget (subst P c.in-Solve.is c.requires.free refl)
