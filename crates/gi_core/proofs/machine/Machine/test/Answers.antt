use Rattle.std.proofs.Common.{◌≡◌, ◌∙◌, ℕ, List, refl, sym, ap, subst}
use Rattle.gi_store.specs.StoreView.{StoreView, IsWithin, problem_of}
use Rattle.gi_model.specs.State.{scope_assumed}
use Rattle.gi_model.specs.declared.calls.Call.TheVariants as call
use Rattle.gi_scopes.specs.Open.{Open, AreReasoned, StillFail}
use Rattle.gi_lit.specs.Problem.{Problem}
use Rattle.gi_scopes.specs.Under.{base_of}
use Rattle.gi_scopes.specs.Built.{IsFor}
use Rattle.gi_core.specs.Content.{Content, content_of}
use Rattle.gi_core.specs.View.{IsBacked}
use Rattle.gi_core.proofs.Moving.{moves_dead, assumed_within, still_fail}
use Rattle.gi_core.proofs.Opening.{moves_implied, moves_failed}
use Rattle.gi_core.proofs.machine.Machine.test.Goals as goal

pub tested-requires-clause-assumed : goal.tested-requires-clause-assumed
tested-requires-clause-assumed c =
    let m = c.args.self.now in
    let P : Content → Type 0 = λ k. IsWithin k.problem.vars c.replace-pending.result in
    subst P (sym c.store.ensures) (subst (λ (ls : List ℕ). IsWithin m.solver.problem.vars ls) (sym c.replace-pending.ensures.value) (assumed_within m.solver.problem m.pending c.requires.whole.kept.clauses c.requires.whole.kept.pending))

pub tested-requires-clause-open : goal.tested-requires-clause-open
tested-requires-clause-open c =
    let m = c.args.self.now in
    let P : Content → Type 0 = λ k. IsWithin k.problem.vars (scope_assumed m.scopes.scopes) in
    subst P (sym c.store.ensures) (assumed_within m.solver.problem (scope_assumed m.scopes.scopes) c.requires.whole.kept.clauses c.requires.whole.kept.assumed)

pub tested-requires-clause-failing : goal.tested-requires-clause-failing
tested-requires-clause-failing c =
    let m = c.args.self.now in
    let P : Content → Type 0 = λ k. StillFail k.problem m.scopes.scopes in
    subst P (sym c.store.ensures) (still_fail m.solver.problem _ _ m.scopes.scopes c.requires.whole.kept.scopes)

pub tested-requires-clause-kept : goal.tested-requires-clause-kept
tested-requires-clause-kept c =
    let m = c.args.self.now in
    subst (λ (k : Content). IsFor m.scopes.kept m.scopes.scopes k.base) (sym c.store.ensures) c.requires.whole.backed.served

backs : (k : Content) (old new : Open) (h : StoreView) → content_of h ≡ k → (AreReasoned (problem_of h) old → AreReasoned (problem_of h) new) → IsFor new.kept new.scopes (base_of h) → IsBacked k old → IsBacked k new
backs k old new h e f g b = subst (λ (x : Content). IsBacked x new) e (record { reasoned = f (subst (λ (p : Problem). AreReasoned p old) (sym (ap (λ (x : Content). x.problem) e)) b.reasoned); served = g })

pub returns-in-Implied : goal.returns-in-Implied
returns-in-Implied c = moves_implied c.args.self.now c.tested.new.scopes c.forget.new.self _ c.replace-pending.result c.replace-pending.new.dest c.in-Implied.lits (ap (λ (k : Content). k.problem) c.store.ensures) c.replace-pending.ensures.value (c.replace-pending.ensures.after ∙ c.new.ensures) c.requires.free c.in-Implied.ensures.answers c.in-Implied.ensures.opens c.forget.ensures (backs c.args.self.now.solver c.args.self.now.scopes c.tested.new.scopes _ c.store.ensures c.tested.ensures.reasons c.tested.ensures.kept)

pub returns-in-Failed : goal.returns-in-Failed
returns-in-Failed c = moves_failed c.args.self.now c.tested.new.scopes c.forget-in-Failed.new.self _ c.replace-pending.result c.replace-pending.new.dest c.in-Failed.failing (ap (λ (k : Content). k.problem) c.store.ensures) c.replace-pending.ensures.value (c.replace-pending.ensures.after ∙ c.new.ensures) c.requires.free c.in-Failed.ensures.answers c.in-Failed.ensures.opens c.forget-in-Failed.ensures (backs c.args.self.now.solver c.args.self.now.scopes c.tested.new.scopes _ c.store.ensures c.tested.ensures.reasons c.tested.ensures.kept)

pub returns-in-NoMemory : goal.returns-in-NoMemory
returns-in-NoMemory c = moves_dead c.args.self.now c.die.new.self call.Test c.die.result refl c.requires.free refl c.die.ensures.value c.die.ensures.state c.die.ensures.blank
