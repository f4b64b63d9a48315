use Rattle.std.proofs.Common.{◌++◌, ℕ, Option, List, take, subst}
use Rattle.std.specs.List.{All, Contains}
use Rattle.std.specs.Option.{IfNone, IfSome}
use Rattle.gi_lit.specs.Closure.{IsClosed}
use Rattle.gi_lit.specs.Problem.{full}
use Rattle.gi_store.specs.StoreView.{problem_of}
use Rattle.gi_model.specs.State.{Scope, scope_assumed}
use Rattle.gi_scopes.specs.Under.{base_of, IsClash}
use Rattle.gi_scopes.specs.declared.clash.Clash.{Clash}
use Rattle.gi_scopes.proofs.Leveling.{stuck_more, next_inside, item_within, building_more}
use Rattle.gi_scopes.proofs.kept.raise_all.Goals as goal

pub loop-level-init : goal.loop-level-init
loop-level-init c = record { built = c.requires.built; vars = c.requires.vars }

pub raise-requires-clause-within : goal.raise-requires-clause-within
raise-requires-clause-within c = rw c.assumed.ensures (item_within c.args.store.now.vars c.loop-level.kept.trail.vars c.args.levels.now c.loop-level.level-index c.level-item.result c.requires.within c.loop-level-test.true c.level-item.is c.loop-level.invariant.vars)

pub returns-in-Some : goal.returns-in-Some
returns-in-Some c =
    let s = c.args.store.now in
    let scs : List Scope = c.args.levels.now in
    let i : ℕ = c.loop-level.level-index in
    let a : List ℕ = c.assumed.result.now in
    let n = c.raise.new.self in
    stuck_more s (take c.loop-level.level-index scs) c.loop-level.kept c.raise.new.self c.loop-level.invariant.built c.level-level.ensures.trail c.loop-level.invariant.vars c.assumed.result.now c.in_ok-clash.ensures.reaches c.in_ok-clash.ensures.vars (scope_assumed scs) c.in-Some.clash
    (λ m x. next_inside scs c.loop-level.level-index c.level-item.result c.loop-level-test.true c.level-item.is m (subst (λ xs. Contains (scope_assumed (take c.loop-level.level-index scs) ++ xs) m) c.assumed.ensures x))
    (subst (λ (o : Option Clash). IfSome o (IsClash s c.assumed.result.now c.raise.new.self.trail.lits)) c.in-Some.is c.in_ok-clash.ensures.clash)

pub loop-level-preserved : goal.loop-level-preserved
loop-level-preserved c =
    let s = c.args.store.now in
    building_more s c.args.levels.now c.loop-level.level-index c.level-item.result c.loop-level.kept c.raise.new.self c.assumed.result.now c.loop-level.invariant c.loop-level-test.true c.level-item.is c.assumed.ensures c.level-level.ensures.trail c.in_ok-clash.ensures.reaches c.in_ok-clash.ensures.vars c.in_ok-clash.ensures.goes c.in_ok-clash.ensures.keys
    (subst (λ (o : Option Clash). IfNone o (All (Contains c.raise.new.self.trail.lits) c.assumed.result.now)) c.in-None.is c.in_ok-clash.ensures.whole)
    (subst (λ (o : Option Clash). IfNone o (IsClosed (full (problem_of (base_of s))) c.raise.new.self.trail.lits)) c.in-None.is c.in_ok-clash.ensures.closed)
