use Rattle.std.proofs.Common.{◌++◌, ◌∷◌, [], ◌≤◌, ◌/◌, ℕ, List, length, sym, ◌∙◌, subst, arith}
use Rattle.std.proofs.lemmas.List.Elements.{All-append}
use Rattle.gi_lit.specs.Closure.{Conflicts}
use Rattle.gi_lit.specs.Problem.{in_force, IsWellFormed}
use Rattle.gi_store.specs.StoreView.{StoreView, IsWithin, problem_of}
use Rattle.gi_prop.specs.TrailView.{TrailView}
use Rattle.gi_model.specs.State.{Scope, Found, listed, scope_assumed}
use Rattle.gi_scopes.specs.Built.{IsStuck, HasReached, Rises, kept_lits}
use Rattle.gi_scopes.specs.Listing.{IsClosedFor}
use Rattle.gi_scopes.specs.declared.clash.Clash.{Clash}
use Rattle.gi_scopes.specs.declared.kept.Reach.TheVariants.{Closed}
use Rattle.gi_scopes.specs.declared.clash.Clash.TheVariants.{Opposite, Clause}
use Rattle.gi_scopes.proofs.Attaching.{under_of}
use Rattle.gi_scopes.proofs.Listing.{scope_assumed-push}
use Rattle.gi_scopes.proofs.Closed.{counts_trail, start_above}
use Rattle.gi_scopes.proofs.Shadowing.{conflict_closes, conflict_in_force, opposite_in_force}
use Rattle.gi_scopes.proofs.find.find.Goals as goal

abbrev none_found : Found
none_found = listed []

pub failing-requires-clause-stuck : goal.failing-requires-clause-stuck
failing-requires-clause-stuck g c =
    let s = c.args.store.now in
    let scs : List Scope = c.args.levels.now in
    let sc : Scope = record { assumed = c.args.assumed.now; found = none_found } in
    let st : IsStuck s (scope_assumed (scs ++ sc ∷ [])) c.in-Stuck.kept.trail c.in-Stuck.clash = subst (HasReached s (scs ++ sc ∷ [])) c.in-Stuck.is (c.in_ok-kept.ensures.reached none_found) in
    subst (λ xs. IsStuck s xs c.in-Stuck.kept.trail c.in-Stuck.clash) (scope_assumed-push scs sc ∙ sym c.requires.given) st

pub list-requires-clause-closed : goal.list-requires-clause-closed
list-requires-clause-closed g c = λ f. subst (HasReached c.args.store.now (c.args.levels.now ++ record { assumed = c.args.assumed.now; found = f } ∷ [])) c.in-Closed.is (c.in_ok-kept.ensures.reached f)

pub list-requires-clause-start : goal.list-requires-clause-start
list-requires-clause-start g c =
    let s = c.args.store.now in
    let scs : List Scope = c.args.levels.now in
    let assumed : List ℕ = c.args.assumed.now in
    let closed : IsClosedFor c.args.store.now c.args.levels.now c.args.assumed.now c.in-Closed.kept = list-requires-clause-closed g c in
    let rises : Rises c.args.kept (Closed c.in-Closed.kept) = subst (Rises c.args.kept) c.in-Closed.is c.in_ok-kept.ensures.rises in
    c.start_of-start.ensures assumed closed
    (start_above s c.vars-vars.ensures.whole.well_formed scs assumed c.in-Closed.kept closed c.lits-lits.ensures.trail c.args.kept c.requires.kept rises c.length_of-from.result c.length_of-from.ensures c.listed_above-above.result c.listed_above-above.ensures)

pub returns-in_ok-outcome-in-Closed-clause-counts : goal.returns-in_ok-outcome-in-Closed-clause-counts
returns-in_ok-outcome-in-Closed-clause-counts g c =
    counts_trail c.in-Closed.kept.trail c.in_ok-outcome-in-Closed.outcome (length (kept_lits c.args.kept)) c.args.steps.now c.count-in-Closed.new.steps c.in_ok-outcome-in-Closed.ensures.trail (omega arith)

pub returns-in_ok-outcome-in-Closed-clause-little : goal.returns-in_ok-outcome-in-Closed-clause-little
returns-in_ok-outcome-in-Closed-clause-little g c = c.in_ok-outcome-in-Closed.ensures.little c.args.kept (subst (Rises c.args.kept) c.in-Closed.is c.in_ok-kept.ensures.rises)

-- a conflict of the full clauses is one of the clauses in force
stuck_in_force : (s : StoreView) (given : List ℕ) (t : TrailView) (c : Clash) → IsWellFormed (problem_of s) → IsWithin s.vars given → IsStuck s given t c → Conflicts (in_force (problem_of s) given) given
stuck_in_force s given t (Opposite l) wf within h =
    opposite_in_force (problem_of s) wf given t.lits (under_of s given t h.reached) l h.clash.0 h.clash.1
stuck_in_force s given t (Clause key) wf within h = conflict_in_force (problem_of s) wf given t.lits (under_of s given t h.reached) h.clash.clause h.clash.stands h.clash.falsified

pub returns-in_ok-w-in-Stuck-clause-closes : goal.returns-in_ok-w-in-Stuck-clause-closes
returns-in_ok-w-in-Stuck-clause-closes g c =
    let s = c.args.store.now in
    let scs : List Scope = c.args.levels.now in
    let given : List ℕ = c.args.given.now in
    let sc : Scope = record { assumed = c.args.assumed.now; found = none_found } in
    let st : IsStuck s (scope_assumed (scs ++ sc ∷ [])) c.in-Stuck.kept.trail c.in-Stuck.clash = subst (HasReached s (scs ++ sc ∷ [])) c.in-Stuck.is (c.in_ok-kept.ensures.reached none_found) in
    let h : IsStuck s given c.in-Stuck.kept.trail c.in-Stuck.clash = subst (λ xs. IsStuck s xs c.in-Stuck.kept.trail c.in-Stuck.clash) (scope_assumed-push scs sc ∙ sym c.requires.given) st in
    let within : IsWithin s.vars given = rw c.requires.given (All-append (λ l. (1 ≤ l / 2) × (l / 2 ≤ s.vars)) (scope_assumed scs) c.args.assumed.now c.requires.open c.requires.assumed) in
    conflict_closes (problem_of s) s.vars given c.in_ok-w-in-Stuck.w c.vars-vars.ensures.whole.well_formed within c.in_ok-w-in-Stuck.ensures.some c.in_ok-w-in-Stuck.ensures.conflicts (stuck_in_force s given c.in-Stuck.kept.trail c.in-Stuck.clash c.vars-vars.ensures.whole.well_formed within h)
