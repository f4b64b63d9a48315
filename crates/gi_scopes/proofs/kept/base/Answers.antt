use Rattle.std.proofs.Common.{Option, Some, None, sym, ap, subst, arith}
use Rattle.std.specs.Result.{IfOk}
use Rattle.std.proofs.lemmas.Result.{IfOk-weaker}
use Rattle.gi_prop.specs.TrailView.{TrailView}
use Rattle.gi_scopes.specs.Under.{base_of}
use Rattle.gi_scopes.specs.Built.{IsFor, HasReached, Stays}
use Rattle.gi_scopes.specs.declared.kept.Kept.{Kept}
use Rattle.gi_scopes.specs.declared.kept.Reach.TheVariants.{Closed}
use Rattle.gi_scopes.proofs.Leveling.{built_grown}
use Rattle.gi_scopes.proofs.kept.base.Goals as goal

pub returns-in-None-clause-stays : goal.returns-in-None-clause-stays
returns-in-None-clause-stays c = subst (λ (o : Option Kept). IfOk c.build.result (Stays o)) (sym c.in-None.is) (IfOk-weaker c.build.result (HasReached c.args.store.now c.args.levels.now) (Stays None) (λ r h. tt) c.build.ensures)

pub returns-in_ok-grow-in-Some-clause-stays : goal.returns-in_ok-grow-in-Some-clause-stays
returns-in_ok-grow-in-Some-clause-stays c =
    let e = c.in_ok-grow-in-Some.ensures.ok in
    let n : Kept = record c.in-Some.kept { trail = c.grow.new.self } in
    subst (λ (o : Option Kept). Stays o (Closed n)) (sym c.in-Some.is) (ap (λ (t : TrailView). t.lits) e, ap (λ (t : TrailView). t.level_starts) e)

pub returns-in_ok-grow-in-Some-clause-reached : goal.returns-in_ok-grow-in-Some-clause-reached
returns-in_ok-grow-in-Some-clause-reached c =
    let s = c.args.store.now in
    let k = c.in-Some.kept in
    let b : IsFor (Some c.in-Some.kept) c.args.levels.now (base_of s) = subst (λ (o : Option Kept). IsFor o c.args.levels.now (base_of s)) c.in-Some.is c.requires.kept in
    let e = c.in_ok-grow-in-Some.ensures.ok in (
      built_grown (base_of s) c.args.levels.now c.in-Some.kept b.0 c.level-level.ensures.trail c.grow.new.self (ap (λ (t : TrailView). t.lits) e) (ap (λ (t : TrailView). t.reasons) e) (ap (λ (t : TrailView). t.level_starts) e) (c.grow.ensures.goes c.in-Some.kept.prop (base_of s) b.0.goes),
      omega (arith, ap (λ (t : TrailView). t.vars) e, c.vars.ensures.value),
    )
