use Rattle.std.proofs.Common.{◌≡◌, List, ℕ, [], ◌∷◌, subst, sym}
use Rattle.std.specs.List.{Contains}
use Rattle.std.proofs.lemmas.Result.{IfOk-weaker}
use Rattle.gi_lit.specs.Literals.{opposite}
use Rattle.gi_lit.specs.Closure.{Conflicts, IsFalsified}
use Rattle.gi_lit.specs.Problem.{full}
use Rattle.gi_lit.proofs.Distinct.{Contains-head}
use Rattle.gi_store.specs.StoreView.{problem_of}
use Rattle.gi_scopes.specs.Under.{base_of, IsClash, IsFalseKey}
use Rattle.gi_scopes.specs.Traced.{Refutes}
use Rattle.gi_scopes.proofs.Tracing.{refuted_clause, refuted_literal}
use Rattle.gi_scopes.proofs.Attaching.{holds_within}
use Rattle.gi_scopes.proofs.Base.{same_full}
use Rattle.gi_scopes.proofs.find.failing.Goals as goal

pub culprits-requires-in-Clause-clause-clause : goal.culprits-requires-in-Clause-clause-clause
culprits-requires-in-Clause-clause-clause c = holds_within c.args.store.now c.vars-vars.ensures.whole c.in-Clause.key c.clause.result.now c.clause.ensures.holds c.args.trail.now.vars c.requires.stuck.vars

pub culprits-requires-in-Clause-clause-falsified : goal.culprits-requires-in-Clause-clause-falsified
culprits-requires-in-Clause-clause-falsified c =
    let lits : List ℕ = c.args.trail.now.lits in
    let f : IsFalseKey c.args.store.now lits c.in-Clause.key = subst (IsClash c.args.store.now c.args.given.now lits) c.in-Clause.is c.requires.stuck.clash in
    subst (IsFalsified lits) (sym (c.clause.ensures.only f.clause f.held)) f.falsified

pub returns-in-Opposite-clause-conflicts : goal.returns-in-Opposite-clause-conflicts
returns-in-Opposite-clause-conflicts c =
    let s = c.args.store.now in
    let given : List ℕ = c.args.given.now in
    let l : ℕ = c.in-Opposite.l in
    let g : Contains given c.in-Opposite.l × Contains c.args.trail.now.lits (opposite c.in-Opposite.l) = subst (IsClash s given c.args.trail.now.lits) c.in-Opposite.is c.requires.stuck.clash in
    IfOk-weaker c.culprits.result (λ (w : List ℕ). Refutes (problem_of (base_of s)) w (c.in-Opposite.l ∷ []) × ((m : ℕ) → Contains (c.in-Opposite.l ∷ []) m → Contains given m → Contains w m)) (λ (w : List ℕ). Conflicts (full (problem_of s)) w)
    (λ w h. subst (λ (cs : List (List ℕ)). Conflicts cs w) (same_full s) (refuted_literal (problem_of (base_of s)) w c.in-Opposite.l (h.1 c.in-Opposite.l (Contains-head c.in-Opposite.l []) g.0) h.0))
    c.culprits.ensures.refutes

pub returns-in-Clause-clause-conflicts : goal.returns-in-Clause-clause-conflicts
returns-in-Clause-clause-conflicts c =
    let s = c.args.store.now in
    let given : List ℕ = c.args.given.now in
    let lits : List ℕ = c.args.trail.now.lits in
    let f : IsFalseKey s lits c.in-Clause.key = subst (IsClash s given lits) c.in-Clause.is c.requires.stuck.clash in
    let clause : List ℕ = c.clause.result.now in
    let e : c.clause.result.now ≡ f.clause = c.clause.ensures.only f.clause f.held in
    let there : Contains (full (problem_of (base_of s))) c.clause.result.now = subst (λ (cs : List (List ℕ)). Contains cs c.clause.result.now) (sym (same_full s)) (subst (Contains (full (problem_of s))) (sym e) f.stands) in
    IfOk-weaker c.culprits-in-Clause.result (λ (w : List ℕ). Refutes (problem_of (base_of s)) w c.clause.result.now × ((m : ℕ) → Contains c.clause.result.now m → Contains given m → Contains w m)) (λ (w : List ℕ). Conflicts (full (problem_of s)) w)
    (λ w h. subst (λ (cs : List (List ℕ)). Conflicts cs w) (same_full s) (refuted_clause (problem_of (base_of s)) w c.clause.result.now there h.0))
    c.culprits-in-Clause.ensures.refutes
