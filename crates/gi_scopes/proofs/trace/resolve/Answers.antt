use Rattle.std.proofs.Common.{◌≡◌, ◌/◌, ℕ, get_or, sym, ap, ◌∙◌, subst}
use Rattle.std.specs.List.{Contains}
use Rattle.gi_store.specs.StoreView.{Holds, IsLive}
use Rattle.gi_scopes.specs.Under.{base_of}
use Rattle.gi_scopes.proofs.Attaching.{held_live, holds_within, reason_key, reason_none, implied_here, same_some, item_is}
use Rattle.gi_scopes.proofs.Base.{base_holds, holds_full}
use Rattle.gi_scopes.proofs.trace.resolve.Goals as goal

pub clause-requires : goal.clause-requires
clause-requires c =
    let s = c.args.store.now in
    let x : c.index-lits-at.result ≡ get_or c.args.trail.now.lits c.args.at 0 = item_is c.lits.result.now c.args.trail.now.lits c.args.at c.index-lits-at.result c.requires.at c.lits.ensures.value c.index-lits-at.is in
    let h = implied_here (base_of s) c.requires.reached.0 c.args.trail.now c.args.at c.var.result c.reason.result c.in-Some.key c.in-Some.is c.requires.at (c.var.ensures ∙ ap (λ n. n / 2) x) c.reason.ensures.assigned c.requires.reached.1 in
    let k : c.in-Some.key ≡ h.key = same_some c.in-Some.key h.key (sym c.in-Some.is ∙ reason_key (base_of s) c.args.trail.now c.args.at c.var.result c.reason.result h c.requires.at (c.var.ensures ∙ ap (λ n. n / 2) x) c.reason.ensures.assigned) in
    subst (IsLive s) (sym k) (held_live s h.key h.clause (base_holds s h.key h.clause h.held))

pub mark-requires-clause-within : goal.mark-requires-clause-within
mark-requires-clause-within c = holds_within c.args.store.now c.vars-vars.ensures.whole c.in-Some.key c.clause.result.now c.clause.ensures.holds c.args.trail.now.vars c.requires.vars

pub returns-in-Some-clause-resolved : goal.returns-in-Some-clause-resolved
returns-in-Some-clause-resolved c t h =
    let s = c.args.store.now in
    let x : c.index-lits-at.result ≡ get_or c.args.trail.now.lits c.args.at 0 = item_is c.lits.result.now c.args.trail.now.lits c.args.at c.index-lits-at.result c.requires.at c.lits.ensures.value c.index-lits-at.is in
    let k : c.in-Some.key ≡ h.key = same_some c.in-Some.key h.key (sym c.in-Some.is ∙ reason_key (base_of s) c.args.trail.now c.args.at c.var.result c.reason.result h c.requires.at (c.var.ensures ∙ ap (λ n. n / 2) x) c.reason.ensures.assigned) in
    let e : c.clause.result.now ≡ h.clause = c.clause.ensures.only h.clause (subst (λ (n : ℕ). Holds s n h.clause) (sym k) (base_holds s h.key h.clause h.held)) in
    (h.clause, holds_full s h.key h.clause h.held, h.forces, λ m q a r. c.mark.ensures.seen m q (subst (λ xs. Contains xs m) (sym e) a) r)

pub returns-in-None-clause-resolved : goal.returns-in-None-clause-resolved
returns-in-None-clause-resolved c t h =
    let s = c.args.store.now in
    let x : c.index-lits-at.result ≡ get_or c.args.trail.now.lits c.args.at 0 = item_is c.lits.result.now c.args.trail.now.lits c.args.at c.index-lits-at.result c.requires.at c.lits.ensures.value c.index-lits-at.is in
    absurd (reason_none h.key (sym c.in-None.is ∙ reason_key (base_of s) c.args.trail.now c.args.at c.var.result c.reason.result h c.requires.at (c.var.ensures ∙ ap (λ n. n / 2) x) c.reason.ensures.assigned))
