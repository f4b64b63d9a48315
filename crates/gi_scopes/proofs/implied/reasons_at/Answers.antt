use Rattle.std.proofs.Common.{◌≡◌, ◌/◌, ℕ, List, take, get_or, sym, ap, ◌∙◌, subst, ◌≤◌, arith}
use Rattle.std.specs.List.{All, Contains}
use Rattle.std.proofs.lemmas.Result.{IfOk-weaker}
use Rattle.gi_prop.specs.TrailView.{TrailView}
use Rattle.gi_scopes.specs.Under.{base_of, IsImpliedAt}
use Rattle.gi_store.specs.StoreView.{StoreView, Holds, IsLive, problem_of}
use Rattle.gi_scopes.specs.Open.{IsReasoned}
use Rattle.gi_scopes.specs.Listing.{AreOthers}
use Rattle.gi_lit.proofs.Literals.{var-opposite}
use Rattle.gi_scopes.proofs.Attaching.{held_live, holds_within, reason_key, same_some, item_is}
use Rattle.gi_scopes.proofs.Base.{base_holds}
use Rattle.gi_scopes.proofs.Noting.{reasoned_of, before_of}
use Rattle.gi_scopes.proofs.implied.reasons_at.Goals as goal

pub clause-requires : goal.clause-requires
clause-requires c =
    let h = c.requires.implied in
    let x : c.index-lits-at.result ≡ get_or c.args.trail.now.lits c.args.at 0 = item_is c.lits.result.now c.args.trail.now.lits c.args.at c.index-lits-at.result c.requires.at c.lits.ensures.value c.index-lits-at.is in
    let k : c.in-Some.key ≡ h.key = same_some c.in-Some.key h.key (sym c.in-Some.is ∙ reason_key (base_of c.args.store.now) c.args.trail.now c.args.at c.var.result c.reason.result h c.requires.at (c.var.ensures ∙ ap (λ n. n / 2) x) c.reason.ensures.assigned) in
    subst (IsLive c.args.store.now) (sym k) (held_live c.args.store.now h.key h.clause (base_holds c.args.store.now h.key h.clause h.held))

own : (s : StoreView) (t : TrailView) (at : ℕ) (h : IsImpliedAt (base_of s) t at) (clause : List ℕ) (x : ℕ) (rs : List ℕ) → clause ≡ h.clause → x ≡ get_or t.lits at 0 → AreOthers clause x rs → AreOthers h.clause (get_or t.lits at 0) rs
own s t at h clause x rs e i o = subst (λ y. AreOthers h.clause y rs) i (subst (λ xs. AreOthers xs x rs) e o)

pub returns-clause-reasons : goal.returns-clause-reasons
returns-clause-reasons c =
    let h = c.requires.implied in
    let x : c.index-lits-at.result ≡ get_or c.args.trail.now.lits c.args.at 0 = item_is c.lits.result.now c.args.trail.now.lits c.args.at c.index-lits-at.result c.requires.at c.lits.ensures.value c.index-lits-at.is in
    let k : c.in-Some.key ≡ h.key = same_some c.in-Some.key h.key (sym c.in-Some.is ∙ reason_key (base_of c.args.store.now) c.args.trail.now c.args.at c.var.result c.reason.result h c.requires.at (c.var.ensures ∙ ap (λ n. n / 2) x) c.reason.ensures.assigned) in
    let e : c.clause.result.now ≡ h.clause = c.clause.ensures.only h.clause (subst (λ (n : ℕ). Holds c.args.store.now n h.clause) (sym k) (base_holds c.args.store.now h.key h.clause h.held)) in
    IfOk-weaker c.others.result (AreOthers c.clause.result.now c.index-lits-at.result) (IsReasoned (problem_of c.args.store.now) (get_or c.args.trail.now.lits c.args.at 0)) (λ rs o. reasoned_of c.args.store.now c.args.trail.now c.args.at h rs (own c.args.store.now c.args.trail.now c.args.at h c.clause.result.now c.index-lits-at.result rs e x o)) c.others.ensures.others

pub returns-clause-before : goal.returns-clause-before
returns-clause-before c =
    let h = c.requires.implied in
    let x : c.index-lits-at.result ≡ get_or c.args.trail.now.lits c.args.at 0 = item_is c.lits.result.now c.args.trail.now.lits c.args.at c.index-lits-at.result c.requires.at c.lits.ensures.value c.index-lits-at.is in
    let k : c.in-Some.key ≡ h.key = same_some c.in-Some.key h.key (sym c.in-Some.is ∙ reason_key (base_of c.args.store.now) c.args.trail.now c.args.at c.var.result c.reason.result h c.requires.at (c.var.ensures ∙ ap (λ n. n / 2) x) c.reason.ensures.assigned) in
    let e : c.clause.result.now ≡ h.clause = c.clause.ensures.only h.clause (subst (λ (n : ℕ). Holds c.args.store.now n h.clause) (sym k) (base_holds c.args.store.now h.key h.clause h.held)) in
    IfOk-weaker c.others.result (AreOthers c.clause.result.now c.index-lits-at.result) (All (Contains (take c.args.at c.args.trail.now.lits))) (λ rs o. before_of (base_of c.args.store.now) c.args.trail.now c.args.at h rs (own c.args.store.now c.args.trail.now c.args.at h c.clause.result.now c.index-lits-at.result rs e x o)) c.others.ensures.others

pub others-requires-clause-codes : goal.others-requires-clause-codes
others-requires-clause-codes c k d lt =
    let v : (1 ≤ get_or c.clause.result.now k d / 2) × (get_or c.clause.result.now k d / 2 ≤ c.args.store.now.vars) = holds_within c.args.store.now c.vars-vars.ensures.whole c.in-Some.key c.clause.result.now c.clause.ensures.holds c.args.store.now.vars (omega arith) k d lt in
    omega (arith, v.1, var-opposite (get_or c.clause.result.now k d), c.requires.count)
