use Rattle.std.proofs.Common.{◌≡◌, IfOk, Option, None, sym, subst}
use Rattle.gi_model.specs.Refusals.{refuses}
use Rattle.gi_model.specs.Early.{early}
use Rattle.gi_model.specs.declared.calls.Call.{Call}
use Rattle.gi_model.specs.declared.calls.Call.TheVariants as call
use Rattle.gi_model.specs.declared.refusal.Refusal.{Refusal}
use Rattle.gi_model.proofs.Refusing.{early_refuses}
use Rattle.gi_reference.proofs.Table.{refuses_load}
use Rattle.gi_reference.proofs.machine.Plain.refusal.Goals as goal

pub returns-in-Some : goal.returns-in-Some
returns-in-Some c = sym (early_refuses c.args.self.now c.args.call.now c.in-Some.refusal (sym c.in-Some.ensures))

pub returns-in-LoadCnf : goal.returns-in-LoadCnf
returns-in-LoadCnf c =
    let e : None ≡ early c.args.self.now (call.LoadCnf c.in-LoadCnf.bytes) = subst (λ (k : Call). None ≡ early c.args.self.now k) c.in-LoadCnf.is c.in-None.ensures in
    let P : Call → Type 0 = λ k. IfOk c.payload_refusal.result (λ r. r ≡ refuses c.args.self.now k) in
    let Q : Option Refusal → Type 0 = λ x. IfOk c.payload_refusal.result (λ r. r ≡ x) in
    subst P (sym c.in-LoadCnf.is) (subst Q (refuses_load c.args.self.now c.in-LoadCnf.bytes e) c.payload_refusal.ensures)
