use Rattle.std.proofs.Common.{◌++◌, ◌∷◌, [], ◌≤◌, Option, List, sym, subst}
use Rattle.std.specs.List.{All, Contains}
use Rattle.std.specs.Option.{IfNone, IfSome}
use Rattle.std.proofs.lemmas.List.Elements.{Contains-append_left}
use Rattle.gi_lit.specs.Closure.{IsClosed}
use Rattle.gi_lit.specs.Problem.{full}
use Rattle.gi_store.specs.StoreView.{problem_of}
use Rattle.gi_model.specs.State.{Scope, scope_assumed}
use Rattle.gi_scopes.specs.Under.{base_of, IsClash}
use Rattle.gi_scopes.specs.Built.{IsBuilt, IsStuck, HasReached, Stays}
use Rattle.gi_scopes.specs.declared.clash.Clash.{Clash}
use Rattle.gi_scopes.proofs.Listing.{scope_assumed-push}
use Rattle.gi_scopes.proofs.Covering.{rises_of, rises_stuck}
use Rattle.gi_scopes.proofs.Leveling.{stuck_wider, stuck_more, closed_more}
use Rattle.gi_scopes.proofs.kept.climb.Goals as goal

pub returns-in-Stuck-clause-reached : goal.returns-in-Stuck-clause-reached
returns-in-Stuck-clause-reached c f =
    let s = c.args.store.now in
    let scs : List Scope = c.args.levels.now in
    let sc : Scope = record { assumed = c.args.assumed.now; found = f } in
    let st : IsStuck s (scope_assumed scs) c.in-Stuck.kept.trail c.in-Stuck.clash = subst (HasReached s scs) c.in-Stuck.is c.in_ok-kept.ensures.reached in
    stuck_wider s (scope_assumed scs) (scope_assumed (scs ++ sc ∷ [])) c.in-Stuck.kept.trail c.in-Stuck.clash (λ m a. subst (λ xs. Contains xs m) (sym (scope_assumed-push scs sc)) (Contains-append_left (scope_assumed scs) c.args.assumed.now m a)) st

pub returns-in-None-clause-reached : goal.returns-in-None-clause-reached
returns-in-None-clause-reached c f =
    let s = c.args.store.now in
    let scs : List Scope = c.args.levels.now in
    let b : IsBuilt c.in-Closed.kept scs (base_of s) × (s.vars ≤ c.in-Closed.kept.trail.vars) = subst (HasReached s scs) c.in-Closed.is c.in_ok-kept.ensures.reached in
    let e = c.in_ok-raise-in-Closed.ensures in
    closed_more s scs c.in-Closed.kept c.raise.new.self b.0 c.level-level.ensures.trail b.1 c.args.assumed.now e.reaches e.vars f e.goes e.keys
    (subst (λ (o : Option Clash). IfNone o (All (Contains c.raise.new.self.trail.lits) c.args.assumed.now)) c.in-None.is e.whole)
    (subst (λ (o : Option Clash). IfNone o (IsClosed (full (problem_of (base_of s))) c.raise.new.self.trail.lits)) c.in-None.is e.closed)

pub returns-in-Some-clause-reached : goal.returns-in-Some-clause-reached
returns-in-Some-clause-reached c f =
    let s = c.args.store.now in
    let scs : List Scope = c.args.levels.now in
    let sc : Scope = record { assumed = c.args.assumed.now; found = f } in
    let b : IsBuilt c.in-Closed.kept scs (base_of s) × (s.vars ≤ c.in-Closed.kept.trail.vars) = subst (HasReached s scs) c.in-Closed.is c.in_ok-kept.ensures.reached in
    let e = c.in_ok-raise-in-Closed.ensures in
    stuck_more s scs c.in-Closed.kept c.raise.new.self b.0 c.level-level.ensures.trail b.1 c.args.assumed.now e.reaches e.vars (scope_assumed (scs ++ sc ∷ [])) c.in-Some.clash
    (λ m a. subst (λ xs. Contains xs m) (sym (scope_assumed-push scs sc)) a)
    (subst (λ (o : Option Clash). IfSome o (IsClash s c.args.assumed.now c.raise.new.self.trail.lits)) c.in-Some.is e.clash)

pub returns-in-None-clause-rises : goal.returns-in-None-clause-rises
returns-in-None-clause-rises c =
    let r = c.in_ok-raise-in-Closed.ensures.reaches in
    rises_of c.args.kept c.in-Closed.kept c.raise.new.self (subst (Stays c.args.kept) c.in-Closed.is c.in_ok-kept.ensures.stays) r.level_starts r.more r.lits

pub returns-in-Stuck-clause-rises : goal.returns-in-Stuck-clause-rises
returns-in-Stuck-clause-rises c = rises_stuck c.args.kept c.in-Stuck.kept c.in-Stuck.clash

pub returns-in-Some-clause-rises : goal.returns-in-Some-clause-rises
returns-in-Some-clause-rises c = rises_stuck c.args.kept c.raise.new.self c.in-Some.clash
